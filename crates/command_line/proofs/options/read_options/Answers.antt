use Rattle.std.proofs.Common.{◌≡◌, Err, List, Result, ap, map, subst, sym, ◌∙◌}
use Rattle.std.proofs.lemmas.Bool.{false≢true}
use Rattle.std.specs.String.{string_bytes}
use Rattle.clap.specs.Walk.{Row}
use Rattle.command_line.specs.Reading.{HoldOptions, IsOffered}
use Rattle.command_line.specs.Tasks.{options_of}
use Rattle.command_line.proofs.Said.{said-offered, said-taken}
use Rattle.command_line.proofs.Taken.{all_texts, given_texts, taken-said}
use Rattle.command_line.proofs.options.read_options.Goals as goal

-- a fault is the same whatever was wanted
same_fault : {T U E : Type 0} (x y : E) → (let r : Result T E = Err x in r) ≡ Err y → (let r : Result U E = Err x in r) ≡ Err y
same_fault x y h = let same : x ≡ y = cc in ap (λ f. Err f) same

pub returns-then-not-are_offered-clause-usage : goal.returns-then-not-are_offered-clause-usage
returns-then-not-are_offered-clause-usage c = λ e p s.
    let yes = c.are_offered.ensures.1 (all_texts string_bytes IsOffered c.args.words.now (said-offered (map string_bytes c.args.words.now) p s)) in
    false≢true (sym c.if-not-are_offered.true ∙ yes)

pub returns-in-Err-clause-usage : goal.returns-in-Err-clause-usage
returns-in-Err-clause-usage c = λ e p s.
    c.in-Err.ensures.refused (same_fault _ _ e) (said-taken (map string_bytes c.args.words.now) p s).0

pub returns-in-Some-clause-said : goal.returns-in-Some-clause-said
returns-in-Some-clause-said c =
    let words = map string_bytes c.args.words.now in
    let given = given_texts c.args.words.now (c.are_offered.ensures.0 c.if-not-are_offered.false) in
    let taken = c.in-Ok.ensures.taken in
    taken-said words (options_of c.in-Some.options) given taken.0 (subst (λ (rows : List Row). HoldOptions rows (options_of c.in-Some.options)) taken.1 c.in-Some.ensures.held)

pub returns-clause-usage : goal.returns-clause-usage
returns-clause-usage c = λ e p s.
    let words = map string_bytes c.args.words.now in
    let taken = c.in-Ok.ensures.taken in
    c.in-None.ensures.none p (subst (λ (rows : List Row). HoldOptions rows p) (sym taken.1) (said-taken words p s).1)
