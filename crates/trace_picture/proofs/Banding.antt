-- What is drawn of a band, event by event.
use Rattle.std.proofs.Common.{◌≡◌, ℕ, ◌+◌, ◌≤◌, List, [], ◌∷◌, ◌++◌, length, take, drop, get_or, refl, ap, sym, subst, ◌∙◌, append_assoc, append-nil, Result, Ok, Err, IfOk, OnErr, arith}
use Rattle.std.specs.Io.KnownBytes.{Appends}
use Rattle.std.specs.declared.option.Option.{Option}
use Rattle.std.proofs.KnownBytes.{Appends-trans}
use Rattle.std.proofs.lemmas.List.{drop_more, drop_all, get_or-take, length-take-le}
use Rattle.larch_actions.specs.declared.event.Layout.{Layout}
use Rattle.larch_actions.specs.declared.event.Event.{Event}
use Rattle.trace_core.specs.Whole.{Flows}
use Rattle.trace_shapes.specs.declared.view.DrawnRange.{DrawnRange}
use Rattle.trace_picture.specs.Bands.{step_text}
use Rattle.trace_picture.specs.Shown.{Drawn, drawn_after}
use Rattle.trace_picture.specs.Keeping.{band_steps, drawn_over}

-- the next event
module _ (l : Layout) (v : DrawnRange) (start i : ℕ) (d : Drawn) (e : Event) (xs ys : List Event) (is : xs ≡ e ∷ ys) where
  later : start + i + 1 ≡ start + (i + 1)
  later = omega arith

  pub steps_more : band_steps l v (start + i) d xs ≡ step_text l v d.page d.board (start + i) e ++ band_steps l v (start + (i + 1)) (drawn_after l v (start + i) e d) ys
  unfolding band_steps
  steps_more = ap (band_steps l v (start + i) d) is ∙ ap (λ n. step_text l v d.page d.board (start + i) e ++ band_steps l v n (drawn_after l v (start + i) e d) ys) later

  pub over_more : drawn_over l v (start + i) d xs ≡ drawn_over l v (start + (i + 1)) (drawn_after l v (start + i) e d) ys
  unfolding drawn_over
  over_more = ap (drawn_over l v (start + i) d) is ∙ ap (λ n. drawn_over l v n (drawn_after l v (start + i) e d) ys) later

-- none is left
pub steps_none : (l : Layout) (v : DrawnRange) (n : ℕ) (d : Drawn) (xs : List Event) → xs ≡ [] → band_steps l v n d xs ≡ []
unfolding band_steps
steps_none l v n d xs is = ap (band_steps l v n d) is

pub over_none : (l : Layout) (v : DrawnRange) (n : ℕ) (d : Drawn) (xs : List Event) → xs ≡ [] → drawn_over l v n d xs ≡ d
unfolding drawn_over
over_none l v n d xs is = ap (drawn_over l v n d) is

-- the event at a place is at the front of those from it on
pub front_is : (all : List Event) (count i : ℕ) (e : Event) → e ≡ get_or all i e → i + 1 ≤ count → count ≤ length all → drop i (take count all) ≡ e ∷ drop (i + 1) (take count all)
front_is all count i e is lt le =
    drop_more (take count all) i e (omega (arith, length-take-le count all le, lt)) ∙ ap (λ x. x ∷ drop (i + 1) (take count all)) (get_or-take count all i e (omega (arith, lt)) ∙ sym is)

pub none_left : (all : List Event) (count i : ℕ) → count ≤ i → count ≤ length all → drop i (take count all) ≡ []
none_left all count i past le = drop_all i (take count all) (omega (arith, length-take-le count all le, past))

-- what was sent in two goes
pub flows_on : (first now later : Option (List ℕ)) (before kept kept' text : List ℕ) → Flows first now before kept text → Flows now later kept kept' [] → Flows first later before kept' text
flows_on first now later before kept kept' text f g = (
  f.0 ++ g.0,
  Appends-trans first now later f.0 g.0 f.1 g.1,
  regroup f.0 g.0 kept' ∙ ap (λ x. f.0 ++ x) (g.2 ∙ append-nil kept) ∙ f.2,
)
  where
    regroup : (a b c : List ℕ) → (a ++ b) ++ c ≡ a ++ (b ++ c)
    regroup a b c = append_assoc a b c

pub if_ok : {T E : Type 0} (r : Result T E) (P Q : T → Type 0) → ((x : T) → P x → Q x) → IfOk r P → IfOk r Q
if_ok (Ok x) P Q h p = h x p
if_ok (Err e) P Q h p = tt

pub always_ok : {T E : Type 0} (r : Result T E) (Q : T → Type 0) → ((x : T) → Q x) → IfOk r Q
always_ok (Ok x) Q h = h x
always_ok (Err e) Q h = tt

pub on_err : {T E : Type 0} (r : Result T E) (P Q : Type 0) → (P → Q) → OnErr r P → OnErr r Q
on_err (Ok x) P Q h p = tt
on_err (Err e) P Q h p = h p
