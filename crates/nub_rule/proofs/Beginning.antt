-- Begun waits: what keeps them where their parts stay, and how a thread raises and lowers them.
use Rattle.std.proofs.Common.{Bool, true, false, cond, ◌≡◌, ◌≢◌, ℕ, zero, suc, ◌+◌, ◌<◌, ◌≤◌, eqb, List, [], ◌∷◌, length, get_or, set, refl, sym, ap, ◌∙◌, arith, Some, None, eq-eqb, ne_eqb}
use Rattle.std.specs.Prelude.{Option as Opt}
use mathlib.Core.Logic.{dite}
use mathlib.Core.Option.{some, some-injective, some-ne-none}
use native.Mathlib.Decide.{ℕ_discrete}
use lib.ListN.{get_elem?}
use Rattle.nub_rule.specs.declared.view.Part.{Part}
use Rattle.nub_rule.specs.declared.view.Stand.{Stand}
use Rattle.nub_rule.specs.declared.view.Wait.{Wait}
use Rattle.nub_rule.specs.declared.view.WaitBit.{WaitBit}
use Rattle.nub_rule.specs.Begun.{raise_of, raisers, IsCounted, BegunWaits}
use Rattle.nub_rule.specs.Items.{Each}
use Rattle.nub_rule.specs.Parts.{counts_in, is_at, stands_at}
use Rattle.nub_rule.specs.Places.{cond_object, waits_at}
use Rattle.nub_rule.specs.Plays.{unread}
use Rattle.nub_rule.proofs.Each.{each-set}
use Rattle.nub_rule.proofs.Frames.{other}
use Rattle.nub_rule.proofs.Lines.{some_none, stand_some, false_true, eqb_is}

-- the begun waits of conditions stay
abbrev pub SameWaits : List ℕ → List ℕ → Type 0
SameWaits words words' = (c : ℕ) → c < 64 → get_or words' (waits_at (cond_object c)) 0 ≡ get_or words (waits_at (cond_object c)) 0

-- a step on another word leaves them
pub waits-stay : (words : List ℕ) (i x : ℕ) → ((c : ℕ) → c < 64 → waits_at (cond_object c) ≢ i) → SameWaits words (set words i x)
waits-stay words i x ne c low = other words i (waits_at (cond_object c)) x (ne c low)

raise-one : (o : Opt ℕ) (c : ℕ) → raise_of o c ≤ 1
raise-one None c = omega arith
raise-one (Some d) c = dite (ℕ_discrete d c)
    (λ e. let z : raise_of (Some d) c ≡ 1 = ap (λ b. cond b 1 0) (eq-eqb d c e) in omega arith)
    (λ ne. let z : raise_of (Some d) c ≡ 0 = ap (λ b. cond b 1 0) (ne_eqb d c ne) in omega arith)

raise-here : (o : Opt ℕ) (c d : ℕ) → o ≡ Some d → d ≡ c → raise_of o c ≡ 1
raise-here o c d is e = ap (λ z. raise_of z c) is ∙ ap (λ b. cond b 1 0) (eq-eqb d c e)

raise-other : (o : Opt ℕ) (c : ℕ) → o ≢ Some c → raise_of o c ≡ 0
raise-other None c ne = refl
raise-other (Some d) c ne = ap (λ b. cond b 1 0) (ne_eqb d c (λ e. ne (ap (λ (z : ℕ). Some z) e)))

raise-else : (o : Opt ℕ) (c d : ℕ) → o ≡ Some d → c ≢ d → raise_of o c ≡ 0
raise-else o c d is ne = ap (λ z. raise_of z c) is ∙ ap (λ b. cond b 1 0) (ne_eqb d c (λ e. ne (sym e)))

pub same-stand : (st : Opt Stand) (s r : Stand) → st ≡ Some s → st ≡ Some r → s ≡ r
same-stand st s r e f = let z : Some s ≡ Some r = sym e ∙ f in cc

same-wait : (wait : Opt Wait) (w x : Wait) → wait ≡ Some w → wait ≡ Some x → w ≡ x
same-wait wait w x e f = let z : Some w ≡ Some x = sym e ∙ f in cc

and-both : (b x : Bool) → cond b x false ≡ true → (b ≡ true) × (x ≡ true)
and-both true x e = (refl, e)
and-both false x e = absurd (false_true e)

at-some : (m : Opt ℕ) (k : ℕ) → is_at m k ≡ true → m ≡ Some k
at-some None k e = absurd (false_true e)
at-some (Some n) k e = ap (λ (z : ℕ). Some z) (eqb_is n k e)

-- who is in the condition c by the count k is in a wait on it
pub counts-some : (wait : Opt Wait) (c k : ℕ) → counts_in wait c k ≡ true → (w : Wait) × (wait ≡ Some w) × (w.cond.0 ≡ c) × (w.member ≡ Some k)
counts-some None c k is = absurd (false_true is)
counts-some (Some w) c k is = let u = and-both (eqb w.cond.0 c) (is_at w.member k) is in (w, refl, eqb_is w.cond.0 c u.0, at-some w.member k u.1)

pub unread-none : (wait : Opt Wait) (v : Wait) → unread wait ≡ Some v → v.member ≡ None
unread-none None v is = absurd cc
unread-none (Some w) v is = let e : record w { member = None } ≡ v = cc in λ i. (sym e i).member

module _ {T H : Type 0} where
  -- there are no more raisers than threads
  pub raisers-few : (c : ℕ) (all : List (Part T H)) → raisers c all ≤ length all
  raisers-few c [] = omega arith
  raisers-few c (p ∷ ps) = let a = raise-one p.raised c in let b = raisers-few c ps in omega arith

  -- the thread n changes its part alone
  pub raisers-set : (c : ℕ) (all : List (Part T H)) (n : ℕ) (p q : Part T H) → get_elem? all n ≡ some p → raisers c (set all n q) + raise_of p.raised c ≡ raisers c all + raise_of q.raised c
  raisers-set c [] n p q at = absurd (some-ne-none p (sym at))
  raisers-set c (x ∷ xs) zero p q at = let e : raise_of x.raised c ≡ raise_of p.raised c = ap (λ (z : Part T H). raise_of z.raised c) (some-injective x p at) in omega arith
  raisers-set c (x ∷ xs) (suc n) p q at = let r = raisers-set c xs n p q at in omega arith

  -- who has raised it is counted
  pub raisers-some : (c : ℕ) (all : List (Part T H)) (n : ℕ) (p : Part T H) → get_elem? all n ≡ some p → p.raised ≡ Some c → 1 ≤ raisers c all
  raisers-some c [] n p at is = absurd (some-ne-none p (sym at))
  raisers-some c (x ∷ xs) zero p at is = let e : raise_of x.raised c ≡ 1 = ap (λ (z : Part T H). raise_of z.raised c) (some-injective x p at) ∙ raise-here p.raised c c is refl in omega arith
  raisers-some c (x ∷ xs) (suc n) p at is = let r = raisers-some c xs n p at is in omega arith

  -- nobody has raised it
  pub raisers-none : (c : ℕ) (all : List (Part T H)) → Each (λ n p. p.raised ≢ Some c) all → raisers c all ≡ 0
  raisers-none c [] h = refl
  raisers-none c (x ∷ xs) h = let a = raise-other x.raised c (h 0 x refl) in let b = raisers-none c xs (λ i p at. h (suc i) p at) in omega arith

  module _ (p q : Part T H) (raised : q.raised ≡ p.raised) (h : IsCounted p) where
    -- where the thread stands, and its wait, stay
    pub counted-same : q.wait ≡ p.wait → q.stand ≡ p.stand → IsCounted q
    counted-same ew es = record {
      member = λ w k is stood. raised ∙ h.member w k (sym ew ∙ is) stood;
      stander = λ s c is there. let r = h.stander s c (sym es ∙ is) there in (raised ∙ r.0, r.1, ew ∙ r.2, r.3);
    }

    -- its wait is over, and it stands nowhere
    pub counted-over : q.wait ≡ None → q.stand ≡ None → IsCounted q
    counted-over over nowhere = record {
      member = λ w k is stood. absurd (some_none q.wait w over is);
      stander = λ s c is there. absurd (some_none q.stand s nowhere is);
    }

    -- it is in the condition by no count any more
    pub counted-unread : q.wait ≡ unread p.wait → q.stand ≡ p.stand → IsCounted q
    counted-unread ew es = record {
      member = λ w k is stood. absurd (some_none w.member k (unread-none p.wait w (sym ew ∙ is)) stood);
      stander = λ s c is there. let r = h.stander s c (sym es ∙ is) there in (raised ∙ r.0, record r.1 { member = None }, ew ∙ ap unread r.2, r.3);
    }

    -- the bit of its mutex was cleared, or taken again, in its wait
    pub counted-rebit : (w : Wait) (b : WaitBit) → p.wait ≡ Some w → q.wait ≡ Some (record w { bit = b }) → q.stand ≡ p.stand → IsCounted q
    counted-rebit w b before after es = record {
      member = λ x k is stood. let e : record w { bit = b } ≡ x = same-wait q.wait (record w { bit = b }) x after is in raised ∙ (h.member w k before ((λ i. (e i).member) ∙ stood) ∙ λ i. Some (e i).cond.0);
      stander = λ s c is there. let r = h.stander s c (sym es ∙ is) there in let e : w ≡ r.1 = same-wait p.wait w r.1 before r.2 in (raised ∙ r.0, record w { bit = b }, after, (λ i. (e i).cond.0) ∙ r.3);
    }

    -- it has raised the begun waits of the condition in which it begins to wait
    pub counted-begun : (c : ℕ) (w : Wait) → p.raised ≡ Some c → p.wait ≡ None → q.wait ≡ Some w → w.cond.0 ≡ c → q.stand ≡ p.stand → IsCounted q
    counted-begun c w was out now on es = record {
      member = λ x k is stood. let e : w ≡ x = same-wait q.wait w x now is in raised ∙ (was ∙ λ i. Some ((sym on ∙ λ j. (e j).cond.0) i));
      stander = λ s d is there. let r = h.stander s d (sym es ∙ is) there in absurd (some_none p.wait r.1 out r.2);
    }

    -- it was in the condition by its count, and stands there now
    pub counted-pushed : (c : ℕ) (w : Wait) (k : ℕ) (st : Stand) → p.wait ≡ Some w → w.cond.0 ≡ c → w.member ≡ Some k → q.wait ≡ unread p.wait → q.stand ≡ Some st → st.at ≡ cond_object c → IsCounted q
    counted-pushed c w k st before on stood ew now there = record {
      member = λ x j is s. absurd (some_none x.member j (unread-none p.wait x (sym ew ∙ is)) s);
      stander = λ s d is here. let z : st.at ≡ s.at = (λ i. (same-stand q.stand st s now is i).at) in let e : c ≡ d = omega arith in
          (raised ∙ (h.member w k before stood ∙ λ i. Some ((on ∙ e) i)), record w { member = None }, ew ∙ ap unread before, on ∙ e);
    }

    -- it stood in the condition, and is in it by a count now
    pub counted-left : (c : ℕ) (w : Wait) (k : ℕ) → stands_at p.stand (cond_object c) ≡ true → w.cond.0 ≡ c → q.wait ≡ Some (record w { member = Some k }) → q.stand ≡ None → IsCounted q
    counted-left c w k there on now nowhere = record {
      member = λ x j is s. let e : record w { member = Some k } ≡ x = same-wait q.wait (record w { member = Some k }) x now is in let st = stand_some p.stand (cond_object c) there in
          raised ∙ ((h.stander st.0 c st.1 st.2).0 ∙ λ i. Some ((sym on ∙ λ j. (e j).cond.0) i));
      stander = λ s d is _. absurd (some_none q.stand s nowhere is);
    }

    -- it stands nowhere now, or at another stage, or at a gate
    pub counted-stands : q.wait ≡ p.wait → ((s : Stand) (c : ℕ) → q.stand ≡ Some s → s.at ≡ cond_object c → (r : Stand) × (p.stand ≡ Some r) × (r.at ≡ s.at)) → IsCounted q
    counted-stands ew moved = record {
      member = λ w k is stood. raised ∙ h.member w k (sym ew ∙ is) stood;
      stander = λ s c is there. let r = moved s c is there in let o = h.stander r.0 c r.1 (r.2 ∙ there) in (raised ∙ o.0, o.1, ew ∙ o.2, o.3);
    }

  module _ (words words' : List ℕ) (all : List (Part T H)) (n : ℕ) (p q : Part T H) (at : get_elem? all n ≡ some p) where
    -- BEGUN WAITS reads the words of begun waits, and of each thread which it raised, its wait and where it stands
    pub begun-frame : SameWaits words words' → q.raised ≡ p.raised → (IsCounted p → IsCounted q) → BegunWaits words all → BegunWaits words' (set all n q)
    begun-frame ws er own h = record {
      counted = λ c low. ws c low ∙ (h.counted c low ∙ (let s = raisers-set c all n p q at in let e : raise_of q.raised c ≡ raise_of p.raised c = ap (λ o. raise_of o c) er in omega arith));
      covered = each-set (λ _ r. IsCounted r) (λ _ r. IsCounted r) all n q (own (h.covered n p at)) (λ k r ne at' f. f) h.covered;
    }

    pub begun-same : SameWaits words words' → q.raised ≡ p.raised → q.wait ≡ p.wait → q.stand ≡ p.stand → BegunWaits words all → BegunWaits words' (set all n q)
    begun-same ws er ew es h = begun-frame ws er (λ f. counted-same p q er f ew es) h

    -- the thread n raises the begun waits of c
    pub begun-raise : (c : ℕ) → ((j : ℕ) → j < 64 → j ≢ c → get_or words' (waits_at (cond_object j)) 0 ≡ get_or words (waits_at (cond_object j)) 0) → get_or words' (waits_at (cond_object c)) 0 ≡ get_or words (waits_at (cond_object c)) 0 + 1
        → p.raised ≡ None → q.raised ≡ Some c → q.wait ≡ p.wait → q.stand ≡ p.stand → BegunWaits words all → BegunWaits words' (set all n q)
    begun-raise c ws up none_before now ew es h =
        let before : (j : ℕ) → raise_of p.raised j ≡ 0 = λ j. ap (λ o. raise_of o j) none_before in
        let own = h.covered n p at in record {
          counted = λ j low. dite (ℕ_discrete j c)
              (λ e. (λ i. get_or words' (waits_at (cond_object (e i))) 0) ∙ (up ∙ (let s = raisers-set c all n p q at in let a = before c in let b = raise-here q.raised c c now refl in let d = h.counted c (let z = e in omega arith) in
              let sum : get_or words (waits_at (cond_object c)) 0 + 1 ≡ raisers c (set all n q) = omega arith in sum ∙ λ i. raisers (sym e i) (set all n q))))
              (λ ne. ws j low ne ∙ (h.counted j low ∙ (let s = raisers-set j all n p q at in let a = before j in let b = raise-else q.raised j c now ne in omega arith)));
          covered = each-set (λ _ r. IsCounted r) (λ _ r. IsCounted r) all n q record {
            member = λ w k is stood. absurd (some_none p.raised w.cond.0 none_before (own.member w k (sym ew ∙ is) stood));
            stander = λ s d is there. absurd (some_none p.raised d none_before (own.stander s d (sym es ∙ is) there).0);
          } (λ k r ne at' f. f) h.covered;
        }

    -- the thread n, which is in no condition and stands nowhere, lowers the begun waits of c, which it has raised
    pub begun-lower : (c : ℕ) → ((j : ℕ) → j < 64 → j ≢ c → get_or words' (waits_at (cond_object j)) 0 ≡ get_or words (waits_at (cond_object j)) 0) → get_or words' (waits_at (cond_object c)) 0 + 1 ≡ get_or words (waits_at (cond_object c)) 0
        → p.raised ≡ Some c → q.raised ≡ None → ((w : Wait) (k : ℕ) → q.wait ≡ Some w → w.member ≡ Some k → ⊥) → q.stand ≡ None → BegunWaits words all → BegunWaits words' (set all n q)
    begun-lower c ws down before now out nowhere h =
        let after : (j : ℕ) → raise_of q.raised j ≡ 0 = λ j. ap (λ o. raise_of o j) now in record {
          counted = λ j low. dite (ℕ_discrete j c)
              (λ e. (λ i. get_or words' (waits_at (cond_object (e i))) 0) ∙ (let s = raisers-set c all n p q at in let a = after c in let b = raise-here p.raised c c before refl in let d = h.counted c (let z = e in omega arith) in
              let sum : get_or words' (waits_at (cond_object c)) 0 ≡ raisers c (set all n q) = omega arith in sum ∙ λ i. raisers (sym e i) (set all n q)))
              (λ ne. ws j low ne ∙ (h.counted j low ∙ (let s = raisers-set j all n p q at in let a = after j in let b = raise-else p.raised j c before ne in omega arith)));
          covered = each-set (λ _ r. IsCounted r) (λ _ r. IsCounted r) all n q record {
            member = λ w k is stood. absurd (out w k is stood);
            stander = λ s d is there. absurd (some_none q.stand s nowhere is);
          } (λ k r ne at' f. f) h.covered;
        }
