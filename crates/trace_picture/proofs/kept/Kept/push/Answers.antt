use Rattle.std.proofs.Common.{◌≡◌, ℕ, ◌+◌, ◌<◌, ◌≤◌, Bool, true, false, cond, eqb, List, [], ◌∷◌, ◌++◌, length, take, refl, ap, sym, subst, ◌∙◌, arith}
use Rattle.std.specs.Prelude.{◌||◌, ◌==◌, slice_set}
use Rattle.std.specs.List.{AllByRecursion}
use Rattle.std.proofs.lemmas.List.{take_more_set, length-set, length-take}
use Rattle.larch_actions.specs.Sets.{in_set}
use Rattle.larch_actions.specs.declared.event.Event.{Event}
use Rattle.trace_board.specs.declared.history.Change.{Change}
use Rattle.trace_board.specs.Marks.{marks}
use Rattle.trace_board.specs.Tracked.{IsNoted}
use Rattle.trace_picture.specs.Plan.{acts, begins_it, forks_it}
use Rattle.trace_picture.proofs.kept.Kept.push.Goals as goal

or_same : (a b c : Bool) → (a || (b || c)) ≡ (b || (a || c))
or_same true true c = refl
or_same true false c = refl
or_same false b c = refl

or_is : (a b : Bool) → cond a true b ≡ (a || b)
or_is true b = refl
or_is false b = refl

acts_more : (es : List Event) (e : Event) (t : ℕ) → acts (es ++ e ∷ []) t ≡ (e.thread.0 == t || acts es t)
acts_more [] e t = refl
acts_more (x ∷ es) e t = ap (λ b. x.thread.0 == t || b) (acts_more es e t) ∙ or_same (x.thread.0 == t) (e.thread.0 == t) (acts es t)

forks_more : (es : List Event) (e : Event) (t : ℕ) → forks_it (es ++ e ∷ []) t ≡ (begins_it (marks e).life t || forks_it es t)
forks_more [] e t = refl
forks_more (x ∷ es) e t = ap (λ b. begins_it (marks x).life t || b) (forks_more es e t) ∙ or_same (begins_it (marks x).life t) (begins_it (marks e).life t) (forks_it es t)

noted_more : (es : List Event) (e : Event) → AllByRecursion IsNoted es → IsNoted e → AllByRecursion IsNoted (es ++ e ∷ [])
noted_more [] e all one = (one, tt)
noted_more (x ∷ es) e all one = (all.0, noted_more es e all.1 one)

pub invariant_of-self : goal.invariant_of-self
invariant_of-self c =
    let e = c.args.e.now in
    let i = c.self.inside in
    let v = c.self.invariant in
    let room : i.len < 50 = omega (arith, c.requires.room, ap length c.self.view_is, length-take i.len i.events, v.0, v.1) in
    let more : take (i.len + 1) (slice_set i.events i.len e) ≡ take i.len i.events ++ e ∷ [] = take_more_set i.events i.len e (omega (arith, room, v.1)) in
    let busy : (t : ℕ) → in_set c.insert.new.self t ≡ acts (take i.len i.events ++ e ∷ []) t =
    λ t. c.insert.ensures.members t ∙ ap (λ b. cond (eqb e.thread.0 t) true b) (v.3 t) ∙ or_is (eqb e.thread.0 t) (acts (take i.len i.events) t) ∙ sym (acts_more (take i.len i.events) e t)
    in
    let forked : (t : ℕ) → in_set c.insert_forked.new.forked t ≡ forks_it (take i.len i.events ++ e ∷ []) t =
    λ t. c.insert_forked.ensures t ∙ (λ j. begins_it ((c.marks_of-shown.ensures j).life) t || v.4 t j) ∙ sym (forks_more (take i.len i.events) e t)
    in (
      omega (arith, room),
      length-set i.events i.len e ∙ v.1,
      subst (AllByRecursion IsNoted) (sym more) (noted_more (take i.len i.events) e v.2 c.requires.noted),
      λ t. busy t ∙ ap (λ es. acts es t) (sym more),
      λ t. forked t ∙ ap (λ es. forks_it es t) (sym more),
    )
