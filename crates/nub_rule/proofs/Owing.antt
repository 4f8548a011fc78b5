-- Wake owed: what keeps it where its parts stay, and how each step on a bit, a queue or a turn keeps it.
use Rattle.std.proofs.Common.{true, false, ◌≡◌, ◌≢◌, ℕ, ◌<◌, ◌≤◌, ◌⊎◌, List, [], ◌∷◌, ◌++◌, get_or, set, refl, sym, ap, ◌∙◌, subst, inl, inr, ⊎_elim, arith, Some, None}
use Rattle.std.specs.Prelude.{Option as Opt}
use mathlib.Core.Logic.{dite}
use mathlib.Core.Option.{some}
use Rattle.std.proofs.lemmas.Bool.{cases_lt}
use native.Mathlib.Decide.{ℕ_discrete}
use lib.ListN.{get_elem?}
use Rattle.larch_actions.specs.Sets.{mem, without}
use Rattle.larch_actions.proofs.Sets.{mem-here, mem-else, mem-last, mem-without}
use Rattle.atomic_table.proofs.Lists.{set_else, set_here}
use Rattle.nub_rule.specs.declared.view.Part.{Part}
use Rattle.nub_rule.specs.declared.view.Stage.{Stage}
use Rattle.nub_rule.specs.declared.view.Stage.TheVariants.{Pushed, Clear, Tested, Asleep, Alerted, Found}
use Rattle.nub_rule.specs.declared.view.Stand.{Stand}
use Rattle.nub_rule.specs.Owed.{IsAsleep, HasCleared, HasTurn, IsUnsure, MustLook, SomebodyMustLook, SleepsSound, WakeOwed}
use Rattle.nub_rule.specs.Parts.{stands_at, IsUntested, HasTested, turned}
use Rattle.nub_rule.specs.Places.{bit_at}
use Rattle.nub_rule.proofs.Each.{at_within, same_at, each-set}
use Rattle.nub_rule.proofs.Naming.{turned-gate, turned-cond}
use Rattle.nub_rule.proofs.Lines.{false_true, some_none, stand_none, stand_some, stand_same, stand_at}

-- the bits of gates stay
abbrev pub SameGates : List ℕ → List ℕ → Type 0
SameGates words words' = (o : ℕ) → o < 128 → get_or words' (bit_at o) 0 ≡ get_or words (bit_at o) 0

pub tested-not : (g : Stage) → HasTested g → IsUntested g → ⊥
tested-not Pushed t u = t
tested-not Clear t u = t
tested-not Tested t u = u
tested-not Asleep t u = u
tested-not Alerted t u = u
tested-not Found t u = u

same_stand : (st : Opt Stand) (s r : Stand) → st ≡ Some s → st ≡ Some r → s ≡ r
same_stand st s r e f = let z : Some s ≡ Some r = sym e ∙ f in cc

mem-more : (k x : ℕ) (xs : List ℕ) → mem k xs ≡ true → mem k (x ∷ xs) ≡ true
mem-more k x xs there = dite (ℕ_discrete x k) (λ e. mem-here k x xs e) (λ ne. mem-else k x xs ne ∙ there)

turned-here : (st : Opt Stand) (s : Stand) (xs : List ℕ) (k : ℕ) → st ≡ Some s → s.at ≡ k → k < 128 → mem k (turned st xs) ≡ true
turned-here st s xs k e there low = ap (mem k) (turned-gate st xs s e (let z : s.at < 128 = omega arith in z)) ∙ mem-here k s.at xs there

turned-more : (st : Opt Stand) (xs : List ℕ) (k : ℕ) → mem k xs ≡ true → mem k (turned st xs) ≡ true
turned-more None xs k there = there
turned-more (Some s) xs k there = ⊎_elim
    (λ (low : s.at < 128). ap (mem k) (turned-gate (Some s) xs s refl low) ∙ mem-more k s.at xs there)
    (λ (hi : 128 ≤ s.at). ap (mem k) (turned-cond (Some s) xs s refl hi) ∙ there)
    (cases_lt s.at 128)

nobody-in : (k : ℕ) (xs : List ℕ) → xs ≡ [] → mem k xs ≡ true → ⊥
nobody-in k xs e there = false_true (sym (ap (mem k) e) ∙ there)

asleep-not : (g : Stage) → IsAsleep g → IsUntested g → ⊥
asleep-not Pushed s u = s
asleep-not Clear s u = s
asleep-not Tested s u = u
asleep-not Asleep s u = u
asleep-not Alerted s u = u
asleep-not Found s u = u

module _ {T H : Type 0} (o : ℕ) (queue : List ℕ) (n : ℕ) (p : Part T H) where
  -- by which case the thread n is bound: a clearing, a turn that it remembers, a stand out of the queue, or a stand in it without a test
  must-cases : {C : Type 0} → (HasCleared o p → C) → (mem o p.turns ≡ true → C) → (stands_at p.stand o ≡ true → mem n queue ≡ false → C)
      → ((s : Stand) → p.stand ≡ Some s → s.at ≡ o → IsUntested s.stage → mem n queue ≡ true → C) → MustLook o queue n p → C
  must-cases cleared turn out unsure = ⊎_elim (λ (c : HasCleared o p). cleared c)
      (λ (m : HasTurn o queue n p ⊎ IsUnsure o queue n p). ⊎_elim
      (λ (t : HasTurn o queue n p). ⊎_elim (λ (u : mem o p.turns ≡ true). turn u) (λ (u : (stands_at p.stand o ≡ true) × (mem n queue ≡ false)). out u.0 u.1) t)
      (λ (t : IsUnsure o queue n p). unsure t.0 t.1 t.2 t.3 t.4) m)

  by-clearing : HasCleared o p → MustLook o queue n p
  by-clearing c = inl c

  by-turn : mem o p.turns ≡ true → MustLook o queue n p
  by-turn t = inr (inl (inl t))

  by-leaving : stands_at p.stand o ≡ true → mem n queue ≡ false → MustLook o queue n p
  by-leaving stands out = inr (inl (inr (stands, out)))

  by-standing : (s : Stand) → p.stand ≡ Some s → s.at ≡ o → IsUntested s.stage → mem n queue ≡ true → MustLook o queue n p
  by-standing s is there untested queued = inr (inr (s, is, there, untested, queued))

  -- who stands nowhere, has no turn and has cleared nothing is bound nowhere
  pub bound-nowhere : p.stand ≡ None → p.turns ≡ [] → p.cleared ≡ [] → MustLook o queue n p → ⊥
  bound-nowhere out et ec = must-cases (λ c. nobody-in o p.cleared ec c) (λ t. nobody-in o p.turns et t) (λ stands gone. stand_none p.stand o out stands) (λ s is there untested queued. some_none p.stand s out is)

  -- who sleeps and has cleared nothing is bound by a turn alone
  pub bound-asleep : (s : Stand) → p.stand ≡ Some s → IsAsleep s.stage → p.cleared ≡ [] → MustLook o queue n p → HasTurn o queue n p
  bound-asleep s is sleeps ec = must-cases (λ c. absurd (nobody-in o p.cleared ec c)) (λ t. inl t) (λ stands gone. inr (stands, gone))
      (λ r is' there untested queued. absurd (asleep-not s.stage sleeps (subst (λ (z : Stand). IsUntested z.stage) (same_stand p.stand r s is' is) untested)))

module _ {T H : Type 0} (queue queue' : ℕ → List ℕ) (words words' : List ℕ) (all : List (Part T H)) (n : ℕ) (p q : Part T H) (at : get_elem? all n ≡ some p) where
  -- the gate k was free with a queue before, and whoever had to look at it must still
  pub record Kept (k : ℕ) : Type 0 where
    pub free : get_or words (bit_at k) 0 ≡ 0
    pub queued : queue k ≢ []
    pub own : MustLook k (queue k) n p → MustLook k (queue' k) n q
    pub others : (j : ℕ) (r : Part T H) → j ≢ n → MustLook k (queue k) j r → MustLook k (queue' k) j r

  -- a step keeps the item where at each gate that is free with a queue somebody new must look, or whoever had to must still
  owes-step : ((k : ℕ) → k < 128 → get_or words' (bit_at k) 0 ≡ 0 → queue' k ≢ [] → SomebodyMustLook k (queue' k) (set all n q) ⊎ Kept k)
      → SleepsSound q → WakeOwed queue words all → WakeOwed queue' words' (set all n q)
  owes-step each sleeps h = record {
    looks = λ k low free queued. ⊎_elim (λ (t : SomebodyMustLook k (queue' k) (set all n q)). t)
        (λ (t : Kept k). let u = h.looks k low t.free t.queued in dite (ℕ_discrete u.0 n)
        (λ e.
        let same : u.1 ≡ p = same_at all n u.1 p (ap (get_elem? all) (sym e) ∙ u.2) at in
        (n, q, set_here all n q (at_within all n p at), t.own (subst (λ (z : ℕ × Part T H). MustLook k (queue k) z.0 z.1) (λ i. (e i, same i)) u.3)))
        (λ ne. (u.0, u.1, set_else all n u.0 q ne ∙ u.2, t.others u.0 u.1 ne u.3)))
        (each k low free queued);
    sound = each-set (λ j r. SleepsSound r) (λ j r. SleepsSound r) all n q sleeps (λ j r ne at' s. s) h.sound;
  }

  -- the thread n itself must look at the gate k
  by-own : (k : ℕ) → MustLook k (queue' k) n q → SomebodyMustLook k (queue' k) (set all n q)
  by-own k m = (n, q, set_here all n q (at_within all n p at), m)

  -- of the own part only notes have changed, and none of the gate k was dropped
  own-notes : (k : ℕ) → queue' k ≡ queue k → q.stand ≡ p.stand → (mem k p.cleared ≡ true → mem k q.cleared ≡ true) → (mem k p.turns ≡ true → mem k q.turns ≡ true)
      → MustLook k (queue k) n p → MustLook k (queue' k) n q
  own-notes k eq es cleared turns = let xs = queue' k in must-cases k (queue k) n p (λ c. by-clearing k xs n q (cleared c)) (λ t. by-turn k xs n q (turns t))
      (λ stands gone. by-leaving k xs n q (ap (λ s. stands_at s k) es ∙ stands) (ap (mem n) eq ∙ gone))
      (λ s is there untested queued. by-standing k xs n q s (es ∙ is) there untested (ap (mem n) eq ∙ queued))

  -- a thread stands in the queue of k as before
  others-queue : (k j : ℕ) (r : Part T H) → mem j (queue' k) ≡ mem j (queue k) → MustLook k (queue k) j r → MustLook k (queue' k) j r
  others-queue k j r e = let xs = queue' k in must-cases k (queue k) j r (λ c. by-clearing k xs j r c) (λ t. by-turn k xs j r t) (λ stands gone. by-leaving k xs j r stands (e ∙ gone))
      (λ s is there untested queued. by-standing k xs j r s is there untested (e ∙ queued))

  kept-by : (k : ℕ) → queue' k ≡ queue k → queue' k ≢ [] → get_or words' (bit_at k) 0 ≡ get_or words (bit_at k) 0 → get_or words' (bit_at k) 0 ≡ 0
      → (MustLook k (queue k) n p → MustLook k (queue' k) n q) → Kept k
  kept-by k eq queued ew free own = record { free = sym ew ∙ free; queued = λ e. queued (eq ∙ e); own = own; others = λ j r ne m. others-queue k j r (ap (mem j) eq) m }

  -- who stood nowhere, or elsewhere, has of the gate k only notes
  own-elsewhere : (k : ℕ) → (stands_at p.stand k ≡ true → ⊥) → (mem k p.cleared ≡ true → mem k q.cleared ≡ true) → (mem k p.turns ≡ true → mem k q.turns ≡ true)
      → MustLook k (queue k) n p → MustLook k (queue' k) n q
  own-elsewhere k out cleared turns = let xs = queue' k in must-cases k (queue k) n p (λ c. by-clearing k xs n q (cleared c)) (λ t. by-turn k xs n q (turns t))
      (λ stands gone. absurd (out stands)) (λ s is there untested queued. absurd (out (stand_at p.stand s k is there)))

  -- the thread n is put last into the queue of o, and hasn't tested the bit
  pub owes-push : (o : ℕ) (s : Stand) → SameGates words words' → queue' o ≡ queue o ++ n ∷ [] → ((k : ℕ) → k ≢ o → queue' k ≡ queue k)
      → p.stand ≡ None → q.stand ≡ Some s → s.at ≡ o → IsUntested s.stage → (IsAsleep s.stage → ⊥) → q.cleared ≡ p.cleared → q.turns ≡ p.turns
      → WakeOwed queue words all → WakeOwed queue' words' (set all n q)
  owes-push o s ws is elsewhere out now there untested awake ec et = owes-step
      (λ k low free queued. dite (ℕ_discrete k o)
      (λ e. inl (by-own k (by-standing k (queue' k) n q s now (there ∙ sym e) untested ((λ i. mem n (queue' (e i))) ∙ (ap (mem n) is ∙ mem-last n (queue o))))))
      (λ ne. inr (kept-by k (elsewhere k ne) queued (ws k low) free
      (own-elsewhere k (λ here. stand_none p.stand k out here) (λ c. ap (mem k) ec ∙ c) (λ t. ap (mem k) et ∙ t)))))
      (λ r e asleep. absurd (awake (subst (λ (z : Stand). IsAsleep z.stage) (same_stand q.stand r s e now) asleep)))

  -- the thread n leaves the queue of o, in which it stood, and has its turn there
  pub owes-leave : (o : ℕ) → SameGates words words' → ((k : ℕ) → k ≢ o → queue' k ≡ queue k)
      → stands_at p.stand o ≡ true → q.stand ≡ None → q.cleared ≡ p.cleared → q.turns ≡ o ∷ p.turns → WakeOwed queue words all → WakeOwed queue' words' (set all n q)
  owes-leave o ws elsewhere there now ec et = owes-step
      (λ k low free queued. dite (ℕ_discrete k o)
      (λ e. inl (by-own k (by-turn k (queue' k) n q (ap (mem k) et ∙ mem-here k o p.turns (sym e)))))
      (λ ne. inr (kept-by k (elsewhere k ne) queued (ws k low) free
      (own-elsewhere k (λ here. ne (stand_same p.stand k o here there)) (λ c. ap (mem k) ec ∙ c) (λ t. ap (mem k) et ∙ (mem-else k o p.turns (λ z. ne (sym z)) ∙ t))))))
      (λ r e asleep. absurd (some_none q.stand r now e))

  -- the thread n leaves the queue of o, in which it stood and had found the bit set
  pub owes-leave-tested : (o : ℕ) (s : Stand) → SameGates words words' → ((k : ℕ) → k ≢ o → queue' k ≡ queue k) → ((j : ℕ) → j ≢ n → mem j (queue' o) ≡ mem j (queue o)) → mem n (queue o) ≡ true
      → p.stand ≡ Some s → s.at ≡ o → HasTested s.stage → q.stand ≡ None → q.cleared ≡ p.cleared → q.turns ≡ p.turns → WakeOwed queue words all → WakeOwed queue' words' (set all n q)
  owes-leave-tested o s ws elsewhere others here was there tested now ec et = owes-step
      (λ k low free queued. dite (ℕ_discrete k o)
      (λ e. inr (record {
        free = sym (ws k low) ∙ free;
        queued = λ z. nobody-in n (queue o) (ap queue (sym e) ∙ z) here;
        own = must-cases k (queue k) n p (λ c. by-clearing k (queue' k) n q (ap (mem k) ec ∙ c)) (λ t. by-turn k (queue' k) n q (ap (mem k) et ∙ t))
            (λ stands gone. absurd (false_true (sym gone ∙ ((λ i. mem n (queue (e i))) ∙ here))))
            (λ r is at_k un in_queue. absurd (tested-not s.stage tested (subst (λ (z : Stand). IsUntested z.stage) (same_stand p.stand r s is was) un)));
        others = λ j r ne m. others-queue k j r ((λ i. mem j (queue' (e i))) ∙ (others j ne ∙ (λ i. mem j (queue (sym e i))))) m;
      }))
      (λ ne. inr (kept-by k (elsewhere k ne) queued (ws k low) free
      (own-elsewhere k (λ stands. ne (stand_same p.stand k o stands (stand_at p.stand s o was there))) (λ c. ap (mem k) ec ∙ c) (λ t. ap (mem k) et ∙ t)))))
      (λ r e asleep. absurd (some_none q.stand r now e))

  -- the first is popped from the queue of o, and the thread n, who popped it, owes no look there
  pub owes-pop : (o : ℕ) → SameGates words words'
      → ((x : ℕ) (xs : List ℕ) → queue o ≡ x ∷ xs → (r : Part T H) × (get_elem? all x ≡ some r) × (stands_at r.stand o ≡ true) × (queue' o ≡ xs) × (mem x xs ≡ false))
      → (queue o ≡ [] → queue' o ≡ []) → ((k : ℕ) → k ≢ o → queue' k ≡ queue k) → q.stand ≡ p.stand → q.cleared ≡ without o p.cleared → q.turns ≡ p.turns
      → WakeOwed queue words all → WakeOwed queue' words' (set all n q)
  owes-pop o ws first none_there elsewhere es ec et h = owes-step
      (λ k low free queued. dite (ℕ_discrete k o)
      (λ e. inl (subst (λ (z : ℕ). SomebodyMustLook z (queue' z) (set all n q)) (sym e) (popped (queue o) refl (λ z. queued (ap queue' e ∙ z)))))
      (λ ne. inr (kept-by k (elsewhere k ne) queued (ws k low) free
      (own-notes k (elsewhere k ne) es (λ c. ap (mem k) ec ∙ (mem-without k o p.cleared ne ∙ c)) (λ t. ap (mem k) et ∙ t)))))
      (λ r e asleep. ec ∙ ap (without o) (h.sound n p at r (sym es ∙ e) asleep)) h
    where
      popped : (zs : List ℕ) → zs ≡ queue o → queue' o ≢ [] → SomebodyMustLook o (queue' o) (set all n q)
      popped [] e queued = absurd (queued (none_there (sym e)))
      popped (x ∷ xs) e queued =
          let t = first x xs (sym e) in
          let gone : mem x (queue' o) ≡ false = ap (mem x) t.3 ∙ t.4 in dite (ℕ_discrete x n)
          (λ same.
          let own : t.0 ≡ p = same_at all n t.0 p (ap (get_elem? all) (sym same) ∙ t.1) at in
          by-own o (by-leaving o (queue' o) n q (ap (λ s. stands_at s o) es ∙ ((λ i. stands_at (sym own i).stand o) ∙ t.2)) ((λ i. mem (sym same i) (queue' o)) ∙ gone)))
          (λ ne. (x, t.0, set_else all n x q ne ∙ t.1, by-leaving o (queue' o) x t.0 t.2 gone))

  -- a queue that is no gate's changes, and the thread n, which stood at no gate, doesn't sleep
  owes-away : (o : ℕ) → SameGates words words' → 128 ≤ o → ((k : ℕ) → k ≢ o → queue' k ≡ queue k) → ((k : ℕ) → k < 128 → stands_at p.stand k ≡ true → ⊥) → SleepsSound q → q.cleared ≡ p.cleared → q.turns ≡ p.turns
      → WakeOwed queue words all → WakeOwed queue' words' (set all n q)
  owes-away o ws hi elsewhere out sound ec et = owes-step
      (λ k low free queued. let ne : k ≢ o = λ z. omega arith in
      inr (kept-by k (elsewhere k ne) queued (ws k low) free (own-elsewhere k (out k low) (λ c. ap (mem k) ec ∙ c) (λ t. ap (mem k) et ∙ t))))
      sound

  -- the thread n is put into a queue that is no gate's
  pub owes-queued : (o : ℕ) → SameGates words words' → 128 ≤ o → ((k : ℕ) → k ≢ o → queue' k ≡ queue k) → p.stand ≡ None → (s : Stand) → q.stand ≡ Some s → (IsAsleep s.stage → ⊥) → q.cleared ≡ p.cleared → q.turns ≡ p.turns
      → WakeOwed queue words all → WakeOwed queue' words' (set all n q)
  owes-queued o ws hi elsewhere out s now awake ec et = owes-away o ws hi elsewhere (λ k low here. stand_none p.stand k out here)
      (λ r e asleep. absurd (awake (subst (λ (z : Stand). IsAsleep z.stage) (same_stand q.stand r s e now) asleep))) ec et

  -- the thread n leaves a queue that is no gate's, in which it stood
  pub owes-unqueued : (o : ℕ) → SameGates words words' → 128 ≤ o → ((k : ℕ) → k ≢ o → queue' k ≡ queue k) → stands_at p.stand o ≡ true → q.stand ≡ None → q.cleared ≡ p.cleared → q.turns ≡ p.turns
      → WakeOwed queue words all → WakeOwed queue' words' (set all n q)
  owes-unqueued o ws hi elsewhere there now ec et = owes-away o ws hi elsewhere (λ k low here. let e = stand_same p.stand k o here there in omega arith)
      (λ r e asleep. absurd (some_none q.stand r now e)) ec et

  -- the queues of gates stay, and of the thread n where it stands and what it remembers of them
  pub owes-beside : SameGates words words' → ((k : ℕ) → k < 128 → queue' k ≡ queue k) → q.stand ≡ p.stand → q.cleared ≡ p.cleared → q.turns ≡ p.turns → WakeOwed queue words all → WakeOwed queue' words' (set all n q)
  owes-beside ws same es ec et h = owes-step
      (λ k low free queued. inr (kept-by k (same k low) queued (ws k low) free (own-notes k (same k low) es (λ c. ap (mem k) ec ∙ c) (λ t. ap (mem k) et ∙ t))))
      (λ r e asleep. ec ∙ h.sound n p at r (sym es ∙ e) asleep) h

module _ {T H : Type 0} (queue : ℕ → List ℕ) (words words' : List ℕ) (all : List (Part T H)) (n : ℕ) (p q : Part T H) (at : get_elem? all n ≡ some p) where
  -- the same where the queues stay
  step : ((k : ℕ) → k < 128 → get_or words' (bit_at k) 0 ≡ 0 → queue k ≢ [] → SomebodyMustLook k (queue k) (set all n q) ⊎ Kept queue queue words words' all n p q at k)
      → SleepsSound q → WakeOwed queue words all → WakeOwed queue words' (set all n q)
  step = owes-step queue queue words words' all n p q at

  kept : (k : ℕ) → queue k ≢ [] → get_or words' (bit_at k) 0 ≡ get_or words (bit_at k) 0 → get_or words' (bit_at k) 0 ≡ 0 → (MustLook k (queue k) n p → MustLook k (queue k) n q) → Kept queue queue words words' all n p q at k
  kept k queued ew free own = kept-by queue queue words words' all n p q at k refl queued ew free own

  notes : (k : ℕ) → q.stand ≡ p.stand → (mem k p.cleared ≡ true → mem k q.cleared ≡ true) → (mem k p.turns ≡ true → mem k q.turns ≡ true) → MustLook k (queue k) n p → MustLook k (queue k) n q
  notes k es cleared turns = own-notes queue queue words words' all n p q at k refl es cleared turns

  -- WAKE OWED reads the bits and queues of gates, and where each thread stands with what it remembers of gates
  pub owes-frame : SameGates words words' → q.stand ≡ p.stand → q.cleared ≡ p.cleared → q.turns ≡ p.turns → WakeOwed queue words all → WakeOwed queue words' (set all n q)
  owes-frame ws es ec et h = step
      (λ k low free queued. inr (kept k queued (ws k low) free (notes k es (λ c. ap (mem k) ec ∙ c) (λ t. ap (mem k) et ∙ t))))
      (λ r e asleep. ec ∙ h.sound n p at r (sym es ∙ e) asleep) h

  -- the thread n found no queue at o
  pub owes-empty : (o : ℕ) → SameGates words words' → queue o ≡ [] → q.stand ≡ p.stand → q.cleared ≡ without o p.cleared → q.turns ≡ p.turns
      → WakeOwed queue words all → WakeOwed queue words' (set all n q)
  owes-empty o ws empty es ec et h = step
      (λ k low free queued. dite (ℕ_discrete k o)
      (λ e. absurd (queued (ap queue e ∙ empty)))
      (λ ne. inr (kept k queued (ws k low) free (notes k es (λ c. ap (mem k) ec ∙ (mem-without k o p.cleared ne ∙ c)) (λ t. ap (mem k) et ∙ t)))))
      (λ r e asleep. ec ∙ ap (without o) (h.sound n p at r (sym es ∙ e) asleep)) h

  -- the thread n tried the bit of o, which is set now
  pub owes-try : (o : ℕ) → ((k : ℕ) → k < 128 → k ≢ o → get_or words' (bit_at k) 0 ≡ get_or words (bit_at k) 0) → (get_or words' (bit_at o) 0 ≡ 0 → ⊥)
      → q.stand ≡ p.stand → q.cleared ≡ p.cleared → q.turns ≡ without o p.turns → WakeOwed queue words all → WakeOwed queue words' (set all n q)
  owes-try o ws set_now es ec et h = step
      (λ k low free queued. dite (ℕ_discrete k o)
      (λ e. absurd (set_now ((λ i. get_or words' (bit_at (sym e i)) 0) ∙ free)))
      (λ ne. inr (kept k queued (ws k low ne) free (notes k es (λ c. ap (mem k) ec ∙ c) (λ t. ap (mem k) et ∙ (mem-without k o p.turns ne ∙ t))))))
      (λ r e asleep. ec ∙ h.sound n p at r (sym es ∙ e) asleep) h

  -- the thread n, which stands nowhere, cleared the bit of o
  pub owes-clear : (o : ℕ) → ((k : ℕ) → k < 128 → k ≢ o → get_or words' (bit_at k) 0 ≡ get_or words (bit_at k) 0)
      → p.stand ≡ None → q.stand ≡ p.stand → q.cleared ≡ o ∷ p.cleared → q.turns ≡ p.turns → WakeOwed queue words all → WakeOwed queue words' (set all n q)
  owes-clear o ws out es ec et = step
      (λ k low free queued. dite (ℕ_discrete k o)
      (λ e. inl (by-own queue queue words words' all n p q at k (by-clearing k (queue k) n q (ap (mem k) ec ∙ mem-here k o p.cleared (sym e)))))
      (λ ne. inr (kept k queued (ws k low ne) free (notes k es (λ c. ap (mem k) ec ∙ (mem-else k o p.cleared (λ z. ne (sym z)) ∙ c)) (λ t. ap (mem k) et ∙ t)))))
      (λ r e asleep. absurd (some_none q.stand r (es ∙ out) e))

  -- the thread n stands where it stood, at another stage: untested still where it was and the bit is clear, and asleep only with no look owed
  pub owes-stage : (s r : Stand) → SameGates words words' → p.stand ≡ Some s → q.stand ≡ Some r → r.at ≡ s.at
      → (IsUntested s.stage → get_or words (bit_at s.at) 0 ≡ 0 → IsUntested r.stage) → (IsAsleep r.stage → p.cleared ≡ []) → q.cleared ≡ p.cleared → q.turns ≡ p.turns
      → WakeOwed queue words all → WakeOwed queue words' (set all n q)
  owes-stage s r ws was now there untested asleep ec et = step
      (λ k low free queued. let xs = queue k in inr (kept k queued (ws k low) free (must-cases k xs n p
      (λ c. by-clearing k xs n q (ap (mem k) ec ∙ c))
      (λ t. by-turn k xs n q (ap (mem k) et ∙ t))
      (λ stands gone. let v = stand_some p.stand k stands in by-leaving k xs n q (stand_at q.stand r k now (there ∙ ((λ i. (same_stand p.stand s v.0 was v.1 i).at) ∙ v.2))) gone)
      (λ u is at_k un in_queue.
      let same = same_stand p.stand u s is was in
      let here : s.at ≡ k = (λ i. (sym same i).at) ∙ at_k in
      let clear : get_or words (bit_at s.at) 0 ≡ 0 = (λ i. get_or words (bit_at (here i)) 0) ∙ (sym (ws k low) ∙ free) in
      by-standing k xs n q r now (there ∙ here) (untested (subst (λ (z : Stand). IsUntested z.stage) same un) clear) in_queue))))
      (λ u e is. ec ∙ asleep (subst (λ (z : Stand). IsAsleep z.stage) (same_stand q.stand u r e now) is))

  -- the thread n, which was ready, stands nowhere now and has its turn
  pub owes-unready : (s : Stand) → SameGates words words' → p.stand ≡ Some s → q.stand ≡ None → q.cleared ≡ p.cleared → q.turns ≡ turned p.stand p.turns
      → WakeOwed queue words all → WakeOwed queue words' (set all n q)
  owes-unready s ws was now ec et = step
      (λ k low free queued.
      let xs = queue k in
      let turn : (r : Stand) → p.stand ≡ Some r → r.at ≡ k → MustLook k xs n q = λ r e there. by-turn k xs n q (ap (mem k) et ∙ turned-here p.stand r p.turns k e there low) in
      inr (kept k queued (ws k low) free (must-cases k xs n p
      (λ c. by-clearing k xs n q (ap (mem k) ec ∙ c))
      (λ t. by-turn k xs n q (ap (mem k) et ∙ turned-more p.stand p.turns k t))
      (λ stands gone. let v = stand_some p.stand k stands in turn v.0 v.1 v.2)
      (λ r is there un in_queue. turn r is there))))
      (λ r e asleep. absurd (some_none q.stand r now e))
