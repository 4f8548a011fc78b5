-- The bits of mutexes, their values and shares: how a try and a clearing change them.
use Rattle.std.proofs.Common.{◌≡◌, ℕ, ◌<◌, ◌≤◌, List, length, set, sym, ap, ◌∙◌, subst, inl, inr, arith, length-set, get_or-set_same, Some, None}
use Rattle.std.specs.Prelude.{Option as Opt}
use mathlib.Core.Logic.{dite}
use mathlib.Core.Option.{Option, some, none, some-injective, some-ne-none}
use native.Mathlib.Decide.{ℕ_discrete}
use lib.ListN.{get_elem?}
use Rattle.larch_actions.specs.declared.event.Layout.{Layout}
use Rattle.larch_actions.specs.Actions.{put}
use Rattle.atomic_table.proofs.Lists.{set_else, set_here}
use Rattle.nub_rule.specs.declared.rule.Slot.{Slot}
use Rattle.nub_rule.specs.declared.rule.Slot.TheVariants.{Value}
use Rattle.nub_rule.specs.declared.view.Part.{Part}
use Rattle.nub_rule.specs.Items.{Marks, Flag, Owns, Current, Shared, Owned}
use Rattle.nub_rule.specs.Parts.{Has, Lacks}
use Rattle.nub_rule.specs.Places.{bit_at, value_at}
use Rattle.nub_rule.proofs.Each.{at_within, at_below, each-set, put-here, put-else}
use Rattle.nub_rule.proofs.Frames.{other, shared-frame}

module _ {T H : Type 0} where
  -- who has a list with something at m, has a place there
  pub lacking : (p : Part T H) (m : ℕ) → m < length p.held → (Has p m → ⊥) → Lacks p m
  lacking p m low away = let t = at_below p.held m low in none_there t.0 t.1
    where
      none_there : (o : Opt T) → get_elem? p.held m ≡ some o → Lacks p m
      none_there None e = e
      none_there (Some x) e = absurd (away (x, e))

module _ {T H : Type 0} (l : Layout) (holds : List T → List H → Type 0) (owner : ℕ → Option ℕ) (values : List T) (shares : List H) (words : List ℕ) (homes : List (Option (Slot T))) (all : List (Part T H)) (n m : ℕ) (p q : Part T H) (at : get_elem? all n ≡ some p) (o : Owned l holds owner values shares words homes all) (wide : length p.held ≡ 64) (long : 1024 ≤ length words) (inside : m < l.mutexes) (lawful : l.mutexes ≤ 64) where
  -- the thread n takes the mutex m, which nobody has
  pub owned-take : (x : T) → owner m ≡ none → get_elem? values m ≡ some x → q.held ≡ set p.held m (Some x) → q.share ≡ p.share
      → Owned l holds (put owner m (some n)) values shares (set words (bit_at m) 1) (set homes (value_at m) none) (set all n q)
  owned-take x free here is share = let owner' = put owner m (some n) in let now : owner' m ≡ some n = put-here owner m (some n) in record {
    standing = each-set (Owns owner) (Owns owner') all n q
        (λ k. dite (ℕ_discrete k m)
        (λ e. ((λ _. ap owner' e ∙ now), λ _. (x, ap (λ l. get_elem? l k) is ∙ (ap (get_elem? (set p.held m (Some x))) e ∙ set_here p.held m (Some x) (omega arith)))))
        (λ ne. let c = o.standing n p at k in let same = ap (λ l. get_elem? l k) is ∙ set_else p.held m k (Some x) ne in let same_owner = put-else owner m k (some n) ne in
        ((λ has. same_owner ∙ c.0 (has.0, sym same ∙ has.1)), λ own. let has = c.1 (sym same_owner ∙ own) in (has.0, same ∙ has.1))))
        (λ j r ne at' c k. dite (ℕ_discrete k m)
        (λ e. ((λ has. absurd (some-ne-none j (sym ((c k).0 has) ∙ (ap owner e ∙ free)))), λ own. absurd (ne (some-injective j n (sym own ∙ (ap owner' e ∙ now))))))
        (λ apart. let same_owner = put-else owner m k (some n) apart in ((λ has. same_owner ∙ (c k).0 has), λ own. (c k).1 (sym same_owner ∙ own)))) o.standing;
    within = λ k j is'. dite (ℕ_discrete k m)
        (λ e. (
          subst (λ (z : ℕ). z < l.mutexes) (sym e) inside,
          subst (λ (z : ℕ). z < length (set all n q)) (some-injective n j (sym now ∙ (ap owner' (sym e) ∙ is'))) (subst (λ (z : ℕ). n < z) (sym (length-set all n q)) (at_within all n p at)),
        ))
        (λ ne. let r = o.within k j (sym (put-else owner m k (some n) ne) ∙ is') in (r.0, subst (λ (z : ℕ). j < z) (sym (length-set all n q)) r.1));
    bits = λ k low. dite (ℕ_discrete k m)
        (λ e. subst (λ (z : ℕ). Flag (set words (bit_at m) 1) (bit_at z) (owner' z)) (sym e) (inr (get_or-set_same words (bit_at m) 1 0 (omega arith), (n, now))))
        (λ ne. subst (λ (z : ℕ × Option ℕ). Marks z.0 z.1) (λ i. (sym (other words (bit_at m) (bit_at k) 1 (λ z. ne (omega arith))) i, sym (put-else owner m k (some n) ne) i)) (o.bits k low));
    at_home = λ k low y there none_has. dite (ℕ_discrete k m)
        (λ e. absurd (some-ne-none n (sym now ∙ (ap owner' (sym e) ∙ none_has))))
        (λ ne. set_else homes (value_at m) (value_at k) none (λ z. ne (omega arith)) ∙ o.at_home k low y there (sym (put-else owner m k (some n) ne) ∙ none_has));
    values_wide = o.values_wide;
    current = each-set (Current values) (Current values) all n q
        (λ k y g. dite (ℕ_discrete k m)
        (λ e. let z : Some x ≡ Some y = some-injective (Some x) (Some y) (sym (set_here p.held m (Some x) (omega arith)) ∙ (ap (get_elem? (set p.held m (Some x))) (sym e) ∙ (ap (λ l. get_elem? l k) (sym is) ∙ g))) in
        let s : x ≡ y = cc in ap (get_elem? values) e ∙ (here ∙ ap some s))
        (λ ne. o.current n p at k y (sym (set_else p.held m k (Some x) ne) ∙ (ap (λ l. get_elem? l k) (sym is) ∙ g))))
        (λ k r ne at' c. c) o.current;
    shares_wide = o.shares_wide ∙ sym (length-set all n q);
    shared = shared-frame all n p q at shares share o.shared;
    kept = o.kept;
  }

  -- the thread n gives the mutex m back, with the value y and the share u
  pub owned-give : (y : T) (u : H) → owner m ≡ some n → value_at m < length homes → m < length values → n < length shares → holds (set values m y) (set shares n u) → q.held ≡ set p.held m None → q.share ≡ Some u
      → Owned l holds (put owner m none) (set values m y) (set shares n u) (set words (bit_at m) 0) (set homes (value_at m) (some (Value (Some y)))) (set all n q)
  owned-give y u own room room' room'' law is share = let owner' = put owner m none in let now : owner' m ≡ none = put-here owner m none in record {
    standing = each-set (Owns owner) (Owns owner') all n q
        (λ k. dite (ℕ_discrete k m)
        (λ e. (
          (λ has. let z : None ≡ Some has.0 = some-injective None (Some has.0) (sym (set_here p.held m None (omega arith)) ∙ (ap (get_elem? (set p.held m None)) (sym e) ∙ (ap (λ l. get_elem? l k) (sym is) ∙ has.1))) in absurd cc),
          λ held. absurd (some-ne-none n (sym held ∙ (ap owner' e ∙ now))),
        ))
        (λ ne. let c = o.standing n p at k in let same = ap (λ l. get_elem? l k) is ∙ set_else p.held m k None ne in let same_owner = put-else owner m k none ne in
        ((λ has. same_owner ∙ c.0 (has.0, sym same ∙ has.1)), λ held. let has = c.1 (sym same_owner ∙ held) in (has.0, same ∙ has.1))))
        (λ j r ne at' c k. dite (ℕ_discrete k m)
        (λ e. ((λ has. absurd (ne (some-injective j n (sym ((c k).0 has) ∙ (ap owner e ∙ own))))), λ held. absurd (some-ne-none j (sym held ∙ (ap owner' e ∙ now)))))
        (λ apart. let same_owner = put-else owner m k none apart in ((λ has. same_owner ∙ (c k).0 has), λ held. (c k).1 (sym same_owner ∙ held)))) o.standing;
    within = λ k j is'. dite (ℕ_discrete k m)
        (λ e. absurd (some-ne-none j (sym is' ∙ (ap owner' e ∙ now))))
        (λ ne. let r = o.within k j (sym (put-else owner m k none ne) ∙ is') in (r.0, subst (λ (z : ℕ). j < z) (sym (length-set all n q)) r.1));
    bits = λ k low. dite (ℕ_discrete k m)
        (λ e. subst (λ (z : ℕ). Flag (set words (bit_at m) 0) (bit_at z) (owner' z)) (sym e) (inl (get_or-set_same words (bit_at m) 0 0 (omega arith), now)))
        (λ ne. subst (λ (z : ℕ × Option ℕ). Marks z.0 z.1) (λ i. (sym (other words (bit_at m) (bit_at k) 0 (λ z. ne (omega arith))) i, sym (put-else owner m k none ne) i)) (o.bits k low));
    at_home = λ k low z there none_has. dite (ℕ_discrete k m)
        (λ e. ap (λ (i : ℕ). get_elem? (set homes (value_at m) (some (Value (Some y)))) (value_at i)) e ∙ (set_here homes (value_at m) (some (Value (Some y))) room
        ∙ ap (λ (i : T). some (some (Value (Some i)))) (some-injective y z (sym (set_here values m y room') ∙ (ap (get_elem? (set values m y)) (sym e) ∙ there)))))
        (λ ne. set_else homes (value_at m) (value_at k) (some (Value (Some y))) (λ i. ne (omega arith)) ∙ o.at_home k low z (sym (set_else values m k y ne) ∙ there) (sym (put-else owner m k none ne) ∙ none_has));
    values_wide = length-set values m y ∙ o.values_wide;
    current = each-set (Current values) (Current (set values m y)) all n q
        (λ k z g. dite (ℕ_discrete k m)
        (λ e. let t : None ≡ Some z = some-injective None (Some z) (sym (set_here p.held m None (omega arith)) ∙ (ap (get_elem? (set p.held m None)) (sym e) ∙ (ap (λ l. get_elem? l k) (sym is) ∙ g))) in absurd cc)
        (λ ne. set_else values m k y ne ∙ o.current n p at k z (sym (set_else p.held m k None ne) ∙ (ap (λ l. get_elem? l k) (sym is) ∙ g))))
        (λ j r ne at' c k z g. dite (ℕ_discrete k m)
        (λ e. absurd (ne (some-injective j n (sym ((o.standing j r at' k).0 (z, g)) ∙ (ap owner e ∙ own)))))
        (λ apart. set_else values m k y apart ∙ c k z g)) o.current;
    shares_wide = length-set shares n u ∙ (o.shares_wide ∙ sym (length-set all n q));
    shared = each-set (Shared shares) (Shared (set shares n u)) all n q (u, share, set_here shares n u room'') (λ k r ne at' c. (c.0, c.1, set_else shares n k u ne ∙ c.2)) o.shared;
    kept = law;
  }
