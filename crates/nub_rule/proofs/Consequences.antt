-- What follows from the rule.
use Rattle.std.proofs.Common.{Bool, true, false, ◌≡◌, ◌≢◌, ℕ, ◌<◌, ◌⊎◌, List, [], ◌∷◌, ◌++◌, get_or, refl, sym, ap, ◌∙◌, inl, inr, ⊎_elim, Some, cond, eq-eqb}
use mathlib.Core.Option.{Option, some}
use lib.ListN.{get_elem?}
use Rattle.larch_actions.specs.declared.event.Layout.{Layout}
use Rattle.larch_actions.specs.declared.event.Life.{Life}
use Rattle.larch_actions.specs.declared.event.Life.TheVariants.{Unborn, Live, Ended}
use Rattle.larch_actions.specs.Actions.{Spec, Leads}
use Rattle.larch_actions.specs.Sets.{mem}
use Rattle.larch_actions.proofs.Sets.{mem-here}
use Rattle.nub_rule.specs.declared.object.Object.TheVariants.{Cond}
use Rattle.nub_rule.specs.declared.rule.Slot.{Slot}
use Rattle.nub_rule.specs.declared.view.Part.{Part}
use Rattle.nub_rule.specs.declared.view.Stand.{Stand}
use Rattle.nub_rule.specs.declared.view.Wait.{Wait}
use Rattle.nub_rule.specs.Consequences.{AreQuiet, EntersToSignal, Follows, SomebodyAlive}
use Rattle.nub_rule.specs.Items.{Each}
use Rattle.nub_rule.specs.Known.{IsCalling}
use Rattle.nub_rule.specs.Objects.{IsGate, object_of}
use Rattle.nub_rule.specs.Owed.{HasCleared, HasTurn, IsUnsure, MustLook, SomebodyMustLook}
use Rattle.nub_rule.specs.PackageRule.{AnyView, IsReady, NoView, OwesAt, PackageRule}
use Rattle.nub_rule.specs.Parts.{Has, HasNothing, counts_in, is_at, stands_at, waits_on}
use Rattle.nub_rule.specs.Places.{bit_at, cond_object, count_at, spin_at}
use Rattle.nub_rule.specs.Plays.{fork_event}
use Rattle.nub_rule.proofs.Each.{at_below, put-here}
use Rattle.nub_rule.proofs.History.{step-state}
use Rattle.nub_rule.proofs.Lines.{false_true, not_true, some_none}

alive-else : (x : Life) → (x ≢ Live → ⊥) → x ≡ Live
alive-else Unborn h = absurd (h (λ e. cc))
alive-else Live h = refl
alive-else Ended h = absurd (h (λ e. cc))

none-in : (xs : List ℕ) → ((t : ℕ) → mem t xs ≡ true → ⊥) → xs ≡ []
none-in [] none = refl
none-in (x ∷ xs) none = absurd (none x (mem-here x x xs refl))

-- a list with an element isn't empty
some-in : (t : ℕ) (xs : List ℕ) → mem t xs ≡ true → xs ≢ []
some-in t xs there e = false_true (sym (ap (mem t) e) ∙ there)

module _ {T H : Type 0} where
  -- who has nothing is bound to no look
  looks-nowhere : (o : ℕ) (queue : List ℕ) (n : ℕ) (p : Part T H) → HasNothing p → MustLook o queue n p → ⊥
  looks-nowhere o queue n p h must = ⊎_elim
      (λ (c : HasCleared o p). false_true (sym (ap (mem o) h.cleared) ∙ c))
      (λ (u : HasTurn o queue n p ⊎ IsUnsure o queue n p). ⊎_elim
      (λ (t : HasTurn o queue n p). ⊎_elim
      (λ (x : mem o p.turns ≡ true). false_true (sym (ap (mem o) h.turns) ∙ x))
      (λ (x : (stands_at p.stand o ≡ true) × (mem n queue ≡ false)). false_true (sym (ap (λ s. stands_at s o) h.stand) ∙ x.0)) t)
      (λ (s : IsUnsure o queue n p). some_none p.stand s.0 h.stand s.1) u) must

module _ {T H : Type 0} (l : Layout) (traced : Bool) (holds : List T → List H → Type 0) (words : List ℕ) (homes : List (Option (Slot T))) (views : List (Part T H)) (r : PackageRule l traced holds words homes views) where
  lives : (n : ℕ) (p : Part T H) → get_elem? views n ≡ some p → (HasNothing p → ⊥) → p.life ≡ Live
  lives n p at has = alive-else p.life (λ dead. has (r.life_words.idle n p at dead))

  -- who is bound to look lives
  looker : (o : ℕ) → SomebodyMustLook o (r.queue o) views → SomebodyAlive (MustLook o (r.queue o)) views
  looker o (n, p, at, must) = (n, p, at, lives n p at (λ h. looks-nowhere o (r.queue o) n p h must), must)

  looked_after : (n : ℕ) (p : Part T H) (s : Stand) → get_elem? views n ≡ some p → p.stand ≡ Some s → s.at < 128 → get_or words (bit_at s.at) 0 ≡ 0
      → IsReady words n ⊎ SomebodyAlive (λ k q. OwesAt s.at q n ⊎ MustLook s.at (r.queue s.at) k q) views
  looked_after n p s at stood low free = ⊎_elim
      (λ (ready : IsReady words n). inl ready)
      (λ (rest : AnyView (λ q. OwesAt s.at q n) views ⊎ ((get_or words (bit_at s.at) 0 ≢ 0) ⊎ SomebodyMustLook s.at (r.queue s.at) views)). inr (⊎_elim
      (λ (o : AnyView (λ q. OwesAt s.at q n) views). let q = o.1 in
      (o.0, q, o.2, lives o.0 q o.2 (λ h. some_none q.spin s.at h.spin o.3.0), inl o.3))
      (λ (x : (get_or words (bit_at s.at) 0 ≢ 0) ⊎ SomebodyMustLook s.at (r.queue s.at) views). ⊎_elim
      (λ (set : get_or words (bit_at s.at) 0 ≢ 0). absurd (set free))
      (λ (must : SomebodyMustLook s.at (r.queue s.at) views). let m = looker s.at must in (m.0, m.1, m.2, m.3, inr m.4)) x) rest))
      (r.no_wake_lost.waits n p at s stood low)

  queues_empty : AreQuiet views → (o : ℕ) → r.queue o ≡ []
  queues_empty quiet o = none-in (r.queue o) (λ t there. let v = at_below views t (r.spin_words.threads o t there) in
      false_true (sym ((r.queued_threads.elsewhere t v.0 v.1 (quiet.stand t v.0 v.1)).0 o) ∙ there))

  conditions_empty : AreQuiet views → (c n : ℕ) → c < 64 → r.state.members c n ≡ false
  conditions_empty quiet c n low = not_true (r.state.members c n) (λ is. ⊎_elim
      (λ (there : mem n (r.left c) ≡ true). some-in n (r.queue (cond_object c)) (r.meaning.left_in c n there) (queues_empty quiet (cond_object c)))
      (λ (v : (p : Part T H) × (get_elem? views n ≡ some p) × (counts_in p.wait c (get_or words (count_at (cond_object c)) 0) ≡ true)).
      false_true (sym (ap (λ w. counts_in w c (get_or words (count_at (cond_object c)) 0)) (quiet.wait n v.0 v.1)) ∙ v.2))
      ((r.meaning.members c n low).0 is))

  spins_clear : AreQuiet views → (o : ℕ) → o < 192 → get_or words (spin_at o) 0 ≡ 0
  spins_clear quiet o low = ⊎_elim
      (λ (z : (get_or words (spin_at o) 0 ≡ 0) × NoView (λ p. p.spin ≡ Some o) views). z.0)
      (λ (x : (get_or words (spin_at o) 0 ≡ 1) × ((n : ℕ) × (p : Part T H) × (get_elem? views n ≡ some p) × (p.spin ≡ Some o) × Each (λ k q. q.spin ≡ Some o → k ≡ n) views)).
      absurd (some_none x.1.1.spin o (quiet.spin x.1.0 x.1.1 x.1.2) x.1.3))
      (r.spin_words.spin o low)

  bits_held : AreQuiet views → (m : ℕ) → m < l.mutexes → (get_or words (bit_at m) 0 ≡ 0) ⊎ ((get_or words (bit_at m) 0 ≡ 1) × ((n : ℕ) × (r.state.holder m ≡ some n)))
  bits_held quiet m low = ⊎_elim
      (λ (z : (get_or words (bit_at m) 0 ≡ 0) × NoView (λ p. Has p m) views). inl z.0)
      (λ (x : (get_or words (bit_at m) 0 ≡ 1) × ((n : ℕ) × (p : Part T H) × (get_elem? views n ≡ some p) × Has p m × Each (λ k q. Has q m → k ≡ n) views)).
      inr (x.0, (x.1.0, (r.meaning.holder m x.1.0).1 (x.1.1, x.1.2, (x.1.3, ap (λ w. waits_on w m) (quiet.wait x.1.0 x.1.1 x.1.2))))))
      (r.mutex_bits.bit m low)

  one_owner : (m i j : ℕ) (p q : Part T H) → m < l.mutexes → get_elem? views i ≡ some p → get_elem? views j ≡ some q → Has p m → Has q m → i ≡ j
  one_owner m i j p q low at at' has has' = ⊎_elim
      (λ (z : (get_or words (bit_at m) 0 ≡ 0) × NoView (λ p. Has p m) views). absurd (z.1 i p at has))
      (λ (x : (get_or words (bit_at m) 0 ≡ 1) × ((n : ℕ) × (p : Part T H) × (get_elem? views n ≡ some p) × Has p m × Each (λ k q. Has q m → k ≡ n) views)).
      x.1.4 i p at has ∙ sym (x.1.4 j q at' has'))
      (r.mutex_bits.bit m low)

  compared : (c n : ℕ) (p : Part T H) (w : Wait) → c < 64 → get_elem? views n ≡ some p → p.spin ≡ Some (cond_object c) → p.wait ≡ Some w → w.cond.0 ≡ c → w.member ≡ Some p.count → r.state.members c n ≡ true
  compared c n p w low at here waits on stood = (r.meaning.members c n low).1 (inr (
    p,
    at,
    ap (λ x. counts_in x c (get_or words (count_at (cond_object c)) 0)) waits
        ∙ (ap (λ b. cond b (is_at w.member (get_or words (count_at (cond_object c)) 0)) false) (eq-eqb w.cond.0 c on)
        ∙ (ap (λ x. is_at x (get_or words (count_at (cond_object c)) 0)) stood ∙ eq-eqb p.count (get_or words (count_at (cond_object c)) 0) (r.counts_read.known n p at c low here))),
  ))

  pub follows : Follows l words views r.queue r.state
  follows = record {
    one_owner = one_owner;
    owed_once = λ t i j p q at at' owes owes'. r.ready_words.owed_once t i p at owes j q at' owes';
    none_begun = λ c n low zero. not_true (r.state.members c n) (λ is. let v = r.begun_waits.covers c n low is in (r.begun_waits.none_begun c low).0 zero n v.0 v.1 v.2);
    alerted = λ n p at seen low. (r.meaning.alerts n low).1 (r.alert_seen n p at seen);
    compared = compared;
    looked_after = looked_after;
    looked_at = λ o low free some_there. looker o (r.no_wake_lost.looks o low free some_there);
    queues_empty = queues_empty;
    spins_clear = spins_clear;
    conditions_empty = conditions_empty;
    bits_held = bits_held;
  }

module _ {T H : Type 0} (l : Layout) (traced : Bool) (holds : List T → List H → Type 0) (words words' : List ℕ) (homes homes' : List (Option (Slot T))) (views views' : List (Part T H)) (n t : ℕ) where
  pub fork-changes : (r : PackageRule l traced holds words homes views) (r' : PackageRule l traced holds words' homes' views') → r'.log ≡ r.log ++ fork_event n t ∷ []
      → (t ≢ n) × ((o : Part T H) → get_elem? views t ≡ some o → o.life ≡ Unborn) × ((o : Part T H) → get_elem? views' t ≡ some o → o.life ≡ Live)
  fork-changes r r' e =
      let leads : Leads r.state (fork_event n t ∷ []) r'.state = step-state l.version r.log r'.log r.state r'.state (fork_event n t ∷ []) r.run r'.run e in
      let may = leads.1.0 in
      let now : r'.state.life t ≡ Live = ap (λ (s : Spec). s.life t) (sym leads.2 ∙ leads.1.1) ∙ put-here r.state.life t Live in (
        (λ same. let u : Unborn ≡ Live = sym may.requires_met ∙ (ap r.state.life same ∙ may.live) in cc),
        (λ o at. sym (r.life_words.life t o at) ∙ may.requires_met),
        (λ o at. sym (r'.life_words.life t o at) ∙ now),
      )

module _ {T H W : Type 0} where
  pub enters-to-signal : EntersToSignal T H W
  enters-to-signal c k reason = ⊎_elim
      (λ (g : IsGate (Cond c) × (mem (object_of (Cond c)) k.looked ≡ true)). absurd g.0)
      (λ (is : IsCalling (Cond c) k). is) reason
