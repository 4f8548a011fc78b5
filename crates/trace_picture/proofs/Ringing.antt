-- What holds between two events of a drawing where it is kept what the events nest.
use Rattle.std.proofs.Common.{◌≡◌, ℕ, ◌+◌, ◌-◌, ◌^◌, ◌<◌, ◌≤◌, Bool, true, List, [], ◌∷◌, ◌++◌, length, take, get_or, ap, sym, subst, ◌∙◌, append-nil}
use Rattle.std.specs.Prelude.{codes}
use Rattle.std.specs.List.{flat_map}
use Rattle.std.specs.declared.option.Option.{Option}
use Rattle.std.proofs.lemmas.List.{take_more}
use Rattle.std.proofs.lemmas.List.Concat.{flat_map-append}
use Rattle.larch_actions.specs.declared.event.Layout.{Layout}
use Rattle.larch_actions.specs.declared.event.Version.{Version}
use Rattle.larch_actions.specs.declared.event.Event.{Event}
use Rattle.larch_actions.specs.Actions.{Spec, Acts, at_first}
use Rattle.larch_actions.specs.State.{Moment, spec_of}
use Rattle.trace_core.specs.ReaderState.{ReaderState}
use Rattle.trace_core.specs.Steps.{TakesHead, TakesEvent}
use Rattle.trace_core.specs.Whole.{Flows}
use Rattle.trace_check.proofs.UnderWay.{starts_on, step_on}
use Rattle.lock_order.specs.declared.answer.Edge.{Edge}
use Rattle.lock_order.specs.declared.lock_graph.LockGraph.{LockGraph}
use Rattle.lock_order.specs.Kept.{IsKept}
use Rattle.trace_shapes.specs.declared.view.DrawnRange.{DrawnRange}
use Rattle.trace_shapes.specs.Places.{in_view}
use Rattle.trace_picture.specs.Keeping.{turned, fills, event_text, event_drawn, event_kept}
use Rattle.trace_picture.specs.Shown.{Drawn, nothing_drawn}
use Rattle.trace_picture.specs.Picture.{head_text}
use Rattle.trace_shapes.specs.Shapes.{with_number}
use Rattle.trace_picture.specs.Rings.{nesting_text}
use Rattle.trace_shapes.proofs.Added.{added_six}
use Rattle.trace_picture.proofs.Drawing.{IsDrawing, drawing_starts, drawing_steps}

-- so far these events were read and drawn, and where that is wanted it is kept what they nest
pub record IsRinging (budget : ℕ) (left₀ : Option (List ℕ)) (before : ℕ) (st : ReaderState) (now : ℕ) (m : Moment) (count : ℕ) (v : DrawnRange) (reported₀ reported : Option (List ℕ)) (kept : List ℕ) (k : Drawn) (xs : List Event) (on : Bool) (n : LockGraph) : Type 0 where
  pub drawing : IsDrawing budget left₀ before st now m count v reported₀ reported kept k xs
  pub noted : on ≡ true → IsKept drawing.under_way.events (spec_of m) n

pub ringing_starts : (budget : ℕ) (left₀ : Option (List ℕ)) (before now : ℕ) (p p' : ReaderState) (l : Layout) (m : Moment) (v : DrawnRange) (reported : Option (List ℕ)) (kept : List ℕ) (k : Drawn) (xs : List Event) (on : Bool) (n : LockGraph)
    → p.rest ≡ left₀ → p.room ≡ budget → p.lines ≡ 0 → TakesHead p p' l → before ≤ now → m.layout ≡ l → spec_of m ≡ at_first l.version → kept ≡ [] ++ head_text l → k ≡ nothing_drawn → xs ≡ [] → ((version : Version) → IsKept [] (at_first version) n)
    → IsRinging budget left₀ before p' now m 0 v reported reported kept k xs on n
unfolding starts_on drawing_starts
ringing_starts budget left₀ before now p p' l m v reported kept k xs on n rest room lines t le laid first text none empty no_cycle = record {
  drawing = drawing_starts budget left₀ before now p p' l m v reported kept k xs rest room lines t le laid first text none empty;
  noted = λ wanted. subst (λ (z : Spec). IsKept [] z n) (sym first) (no_cycle l.version);
}

module _ (budget : ℕ) (left₀ : Option (List ℕ)) (before now : ℕ) (p : ReaderState) (m : Moment) (count : ℕ) (v : DrawnRange) (reported₀ reported : Option (List ℕ)) (kept : List ℕ) (k : Drawn) (xs : List Event) (on : Bool) (n : LockGraph)
    (r : IsRinging budget left₀ before p now m count v reported₀ reported kept k xs on n) where
  pub ringing_steps : (now' : ℕ) (p' : ReaderState) (m' : Moment) (e : Event) (reported' : Option (List ℕ)) (kept' : List ℕ) (k' : Drawn) (xs' : List Event) (n' : LockGraph) (l : Layout) → l ≡ p.layout → budget < 2 ^ 64 - 1 → TakesEvent p p' e → Acts (spec_of m) e (spec_of m') → m'.layout ≡ m.layout → now ≤ now'
      → Flows reported reported' kept kept' (event_text l v count k xs e) → k' ≡ event_drawn l v count k xs e → xs' ≡ event_kept v count xs e
      → (in_view v count ≡ true → fills v count ≡ true → (turned l (xs ++ e ∷ []) k).page.next ≤ k.page.next + 65536)
      → (on ≡ true → (es : List Event) (s s' : Spec) → count ≡ length es → Acts s e s' → IsKept es s n → IsKept (es ++ e ∷ []) s' n')
      → IsRinging budget left₀ before p' now' m' (count + 1) v reported₀ reported' kept' k' xs' on n'
  unfolding step_on drawing_steps
  ringing_steps now' p' m' e reported' kept' k' xs' n' l same_l fits t a same le text turns keeps near notes = record {
    drawing = drawing_steps budget left₀ before now p m count v reported₀ reported kept k xs r.drawing now' p' m' e reported' kept' k' xs' l same_l fits t a same le text turns keeps near;
    noted = λ wanted. notes wanted r.drawing.under_way.events (spec_of m) (spec_of m') (sym r.drawing.under_way.counted) a (r.noted wanted);
  }

-- one more text
pub texts_at : {T : Type 0} (f : T → List ℕ) (ns : List T) (k : ℕ) (n : T) → k < length ns → flat_map f (take k ns) ++ f (get_or ns k n) ≡ flat_map f (take (k + 1) ns)
texts_at f ns k n lt =
    ap (λ l. flat_map f (take k ns) ++ l) (sym (append-nil (f (get_or ns k n)))) ∙ sym (flat_map-append f (take k ns) (get_or ns k n ∷ []))
    ∙ ap (flat_map f) (sym (take_more ns k n lt))

pub texts_more : (f : Edge → List ℕ) (ns : List Edge) (k : ℕ) (n : Edge) → k < length ns → n ≡ get_or ns k n → flat_map f (take k ns) ++ f n ≡ flat_map f (take (k + 1) ns)
texts_more f ns k n lt is = ap (λ x. flat_map f (take k ns) ++ f x) is ∙ texts_at f ns k n lt

-- the pieces of a step of a cycle
pub added_nesting : (n : Edge) (m k t : ℕ) (old a b c d e f : List ℕ) → m ≡ n.outer.0 → k ≡ n.inner.0 → t ≡ n.thread.0
    → a ≡ old ++ with_number (codes ", <a href='#e") n.place → b ≡ a ++ with_number (codes "'>m") m → c ≡ b ++ with_number (codes " then m") k
    → d ≡ c ++ with_number (codes " by t") t → e ≡ d ++ with_number (codes " at event ") n.place → f ≡ e ++ codes "</a>" → f ≡ old ++ nesting_text n
unfolding nesting_text
added_nesting n m k t old a b c d e f em ek et one two three four five six =
    added_six old a b c _ _ _ _ _ one two three d e f _ four five six
    ∙ (λ i. old ++ (with_number (codes ", <a href='#e") n.place ++ with_number (codes "'>m") (em i) ++ with_number (codes " then m") (ek i) ++ with_number (codes " by t") (et i) ++ with_number (codes " at event ") n.place ++ codes "</a>"))
