use Rattle.std.proofs.Common.{◌≡◌, ◌≢◌, ℕ, ◌<◌, List, [], length, get_or, rules, arith, sym, ◌∙◌, subst, ⊎_elim, ap}
use Rattle.std.specs.List.{All}
use Rattle.std.proofs.lemmas.List.{length-map}
use Rattle.std.proofs.lemmas.Bool.{cases_eq}
use Rattle.larch_actions.specs.declared.event.Event.{Event}
use Rattle.nub_rule.specs.declared.package.Entry.{Entry}
use Rattle.nub_rule.specs.declared.package.Stored.{Stored}
use Rattle.nub.specs.History.{IsOf, SameAt}
use Rattle.nub.proofs.Places.{AreLists, entries_are_of, filled, listed, lists_of, whole_lists, counted}
use Rattle.nub.proofs.trace_order.in_order.Goals as goal

-- the list of the thread that is read
read : (stored : List Stored) (i : ℕ) (s : Stored) → i < length stored → s ≡ get_or stored i s → get_or (lists_of stored) i [] ≡ s.entries.items
read stored i s l e = listed stored i s l ∙ ap (λ (z : Stored). z.entries.items) (sym e)

are_of : (h : List Event) (stored : List Stored) (i : ℕ) (s : Stored) → AreLists h (lists_of stored) → i < length stored → s ≡ get_or stored i s → All (IsOf h) s.entries.items
are_of h stored i s are l e =
    let n : length (lists_of stored) ≡ length stored = length-map stored (λ s. s.entries.items) in
    let m : i < length (lists_of stored) = omega arith in
    let P : List Entry → Type 0 = λ ys. All (IsOf h) ys in
    subst P (sym (are.each i m) ∙ read stored i s l e) (entries_are_of h i)

pub place_all-requires : goal.place_all-requires
place_all-requires c = λ k d l.
    let stored = c.args.stored.now in
    let h = c.requires.0 in
    let are = whole_lists h stored c.requires.1 (c.are_whole.ensures (search rules)) in
    let a = counted h stored are in
    let b = (are_of h stored c.loop-s.s-index c.s-item.result are c.loop-s-test.true c.s-item.is k d l).0 in
    let t : c.in-Some.total ≡ length h = c.in-Some.ensures ∙ a in
    let n = c.loop-s.invariant.long in
    omega arith

pub loop-s-preserved : goal.loop-s-preserved
loop-s-preserved c = record {
  long = search rules;
  fills = λ h given t l.
      let stored = c.args.stored.now in
      let i = c.loop-s.s-index in
      let are = whole_lists h stored given (c.are_whole.ensures (search rules)) in
      let of = are_of h stored i c.s-item.result are c.loop-s-test.true c.s-item.is in
      let P : List Entry → Type 0 = λ ys. All (λ x. SameAt h c.place_all.new.places.items x.number) ys in
      ⊎_elim
      (λ (e : t ≡ i). subst P (sym (ap (λ (n : ℕ). get_or (lists_of stored) n []) e ∙ read stored i c.s-item.result c.loop-s-test.true c.s-item.is)) (c.place_all.ensures.fills h of))
      (λ (n : t ≢ i). λ k d m. c.place_all.ensures.keeps h of (get_or (get_or (lists_of stored) t []) k d).number (c.loop-s.invariant.fills h given t (omega arith) k d m))
      (cases_eq t i);
}

pub returns : goal.returns
returns c = λ h given.
    let stored = c.args.stored.now in
    let are = whole_lists h stored given (c.are_whole.ensures (search rules)) in
    let a = counted h stored are in
    let t : c.in-Some.total ≡ length h = c.in-Some.ensures ∙ a in
    let n : length (lists_of stored) ≡ length stored = length-map stored (λ s. s.entries.items) in
    let long : length c.loop-s.places.items ≡ length h = omega arith in
    filled h c.loop-s.places.items (lists_of stored) are long (λ i l. c.loop-s.invariant.fills h given i (omega arith))
