use Rattle.std.proofs.Common.{◌≡◌, ◌∙◌, ◌∷◌, Err, List, Ok, Result, ap, codes, inl, inr, map, refl, subst, sym}
use Rattle.std.specs.String.{string_bytes}
use Rattle.command_line.specs.Grammar.{Say, Text}
use Rattle.command_line.proofs.Tasks.{no_index, no_trace}
use Rattle.command_line.specs.declared.command.WordsFault.{WordsFault}
use Rattle.command_line.specs.declared.command.WordsFault.TheVariants.{Usage, Memory}
use Rattle.command_line.proofs.command.read_command.Goals as goal

done : {T : Type 0} {v : T} {f : WordsFault} → Ok v ≡ Err f → ⊥
done e = cc

no_memory : {T : Type 0} {r : Result T WordsFault} → r ≡ Err Usage → r ≡ Err Memory → ⊥
no_memory e f = cc

pub returns-in_err-read_options-in-index-clause-usage : goal.returns-in_err-read_options-in-index-clause-usage
returns-in_err-read_options-in-index-clause-usage c = λ e t s.
    let same = rw e at (c.from_residual.ensures.1) in
    let words : map string_bytes c.args.words.now ≡ codes "index" ∷ map string_bytes c.in-Some.rest.now =
    ap (map string_bytes) c.in-Some.ensures.cases.0 ∙ ap (λ w. w ∷ map string_bytes c.in-Some.rest.now) (sym c.as_str.ensures.value ∙ c.in-index.is) in
    no_index (map string_bytes c.in-Some.rest.now) (c.in_err-read_options-in-index.ensures.usage (ap (λ f. Err f) (sym same))) t
    (subst (λ (ws : List Text). Say ws t) words s)

pub returns-in_err-read_options-in-trace-clause-usage : goal.returns-in_err-read_options-in-trace-clause-usage
returns-in_err-read_options-in-trace-clause-usage c = λ e t s.
    let same = rw e at (c.from_residual-in_err-read_options-in-trace.ensures.1) in
    let words : map string_bytes c.args.words.now ≡ codes "trace" ∷ map string_bytes c.in-Some.rest.now =
    ap (map string_bytes) c.in-Some.ensures.cases.0 ∙ ap (λ w. w ∷ map string_bytes c.in-Some.rest.now) (sym c.as_str.ensures.value ∙ c.in-trace.is) in
    no_trace (map string_bytes c.in-Some.rest.now) (c.in_err-read_options-in-trace.ensures.usage (ap (λ f. Err f) (sym same))) t
    (subst (λ (ws : List Text). Say ws t) words s)

pub returns-in_err-read_options-in-index-clause-begun : goal.returns-in_err-read_options-in-index-clause-begun
returns-in_err-read_options-in-index-clause-begun c = λ e.
    let words : map string_bytes c.args.words.now ≡ codes "index" ∷ map string_bytes c.in-Some.rest.now =
    ap (map string_bytes) c.in-Some.ensures.cases.0 ∙ ap (λ w. w ∷ map string_bytes c.in-Some.rest.now) (sym c.as_str.ensures.value ∙ c.in-index.is) in
    (map string_bytes c.in-Some.rest.now, inl words)

pub returns-in_err-read_options-in-trace-clause-begun : goal.returns-in_err-read_options-in-trace-clause-begun
returns-in_err-read_options-in-trace-clause-begun c = λ e.
    let words : map string_bytes c.args.words.now ≡ codes "trace" ∷ map string_bytes c.in-Some.rest.now =
    ap (map string_bytes) c.in-Some.ensures.cases.0 ∙ ap (λ w. w ∷ map string_bytes c.in-Some.rest.now) (sym c.as_str.ensures.value ∙ c.in-trace.is) in
    (map string_bytes c.in-Some.rest.now, inr words)

pub returns-in_ok-read_options-in-index-clause-said : goal.returns-in_ok-read_options-in-index-clause-said
returns-in_ok-read_options-in-index-clause-said c =
    let words : map string_bytes c.args.words.now ≡ codes "index" ∷ map string_bytes c.in-Some.rest.now =
    ap (map string_bytes) c.in-Some.ensures.cases.0 ∙ ap (λ w. w ∷ map string_bytes c.in-Some.rest.now) (sym c.as_str.ensures.value ∙ c.in-index.is) in
    (map string_bytes c.in-Some.rest.now, words, c.in_ok-read_options-in-index.ensures.said)

pub returns-in_ok-read_options-in-index-clause-usage : goal.returns-in_ok-read_options-in-index-clause-usage
returns-in_ok-read_options-in-index-clause-usage c = λ e. absurd (done e)

pub returns-in_ok-read_options-in-index-clause-begun : goal.returns-in_ok-read_options-in-index-clause-begun
returns-in_ok-read_options-in-index-clause-begun c = λ e. absurd (done e)

pub returns-in_ok-read_options-in-trace-clause-said : goal.returns-in_ok-read_options-in-trace-clause-said
returns-in_ok-read_options-in-trace-clause-said c =
    let words : map string_bytes c.args.words.now ≡ codes "trace" ∷ map string_bytes c.in-Some.rest.now =
    ap (map string_bytes) c.in-Some.ensures.cases.0 ∙ ap (λ w. w ∷ map string_bytes c.in-Some.rest.now) (sym c.as_str.ensures.value ∙ c.in-trace.is) in
    (map string_bytes c.in-Some.rest.now, words, c.in_ok-read_options-in-trace.ensures.said)

pub returns-in_ok-read_options-in-trace-clause-usage : goal.returns-in_ok-read_options-in-trace-clause-usage
returns-in_ok-read_options-in-trace-clause-usage c = λ e. absurd (done e)

pub returns-in_ok-read_options-in-trace-clause-begun : goal.returns-in_ok-read_options-in-trace-clause-begun
returns-in_ok-read_options-in-trace-clause-begun c = λ e. absurd (done e)

pub returns-in-sample-clause-begun : goal.returns-in-sample-clause-begun
returns-in-sample-clause-begun c = λ e. absurd (c.read_sample.ensures.memory e)

pub returns-in_default-as_str-clause-begun : goal.returns-in_default-as_str-clause-begun
returns-in_default-as_str-clause-begun c = λ e. absurd (no_memory refl e)
