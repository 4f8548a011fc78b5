-- A call at a plain buffer adds one thing to what its thread has done there.
use Rattle.std.proofs.Common.{◌≡◌, ◌≢◌, ◌⊎◌, ℕ, zero, suc, ◌+◌, ◌*◌, ◌<◌, List, [], ◌∷◌, Option as Opt, Some, None, replicate, arith, ap, sym, subst, ◌∙◌, refl, inl, inr, ⊎_elim}
use Rattle.std.proofs.lemmas.Bool.{cases_eq}
use mathlib.Core.Option.{some, some-injective, some-ne-none}
use lib.ListN.{get_elem?}
use Rattle.larch_actions.specs.declared.event.Layout.{Layout}
use Rattle.nub_rule.specs.Known.{Known, Shape}
use Rattle.nub.specs.Idle.{IsIdle}
use Rattle.bounded_buffer.specs.declared.at.BufferAt.{BufferAt}
use Rattle.bounded_buffer.specs.declared.did.Did.{Did}
use Rattle.bounded_buffer.specs.declared.note.Note.{Note}
use Rattle.bounded_buffer.specs.At.{IsNamed}
use Rattle.bounded_buffer.specs.Calls.{Ran, did_last, wait_count}
use Rattle.bounded_buffer.specs.Parts.{Used, did, unused}
use Rattle.bounded_buffer.specs.Plain.{IsPlain, part_of}
use Rattle.bounded_buffer.specs.Rings.{Held}
use Rattle.bounded_buffer.specs.Using.{Falls, HasUsed, did_at, settled}

module _ {T : Type 0} where
  -- what stands at k after this was done at m
  at_did : (m : ℕ) (d : Did T) (us : List (Used T)) (k : ℕ) (u : Used T) → get_elem? (did_at m d us) k ≡ some u
      → ((k ≡ m) × (v : Used T) × (get_elem? us m ≡ some v) × (did d v ≡ u)) ⊎ ((k ≢ m) × (get_elem? us k ≡ some u))
  at_did m d [] k u e = absurd (some-ne-none u (sym e))
  at_did zero d (v ∷ us) zero u e = inl (refl, v, refl, some-injective (did d v) u e)
  at_did zero d (v ∷ us) (suc k) u e = inr ((λ is. let z = is in omega arith), e)
  at_did (suc m) d (v ∷ us) zero u e = inr ((λ is. let z = is in omega arith), e)
  at_did (suc m) d (v ∷ us) (suc k) u e = ⊎_elim
      (λ (h : (k ≡ m) × (w : Used T) × (get_elem? us m ≡ some w) × (did d w ≡ u)). inl (ap suc h.0, h.1, h.2, h.3))
      (λ (h : (k ≢ m) × (get_elem? us k ≡ some u)). inr ((λ is. h.0 (let z = is in omega arith)), h.1))
      (at_did m d us k u e)

  -- this was done too, if anything was
  abbrev pub done_at : ℕ → Opt (Did T) → List (Used T) → List (Used T)
  done_at m None us = us
  done_at m (Some d) us = did_at m d us

  module _ {W : Type 0} {p : Shape W} {n : ℕ} {us : List (Used T)} {a : Known (Held T) (List (Note T)) W} (was : HasUsed p n us a) (m : ℕ) (r : List (Note T)) (there : (k : ℕ) → k ≢ m → part_of r k ≡ part_of was.share k) where
    said_on : (d : Opt (Did T)) → settled (part_of r m) ≡ did_last d (settled (part_of was.share m)) → (k : ℕ) (u : Used T) → get_elem? (done_at m d us) k ≡ some u → settled (part_of r k) ≡ u
    said_on None here k u at = ⊎_elim
        (λ (e : k ≡ m). ap (λ j. settled (part_of r j)) e ∙ (here ∙ (ap (λ j. settled (part_of was.share j)) (sym e) ∙ was.said k u at)))
        (λ (h : k ≢ m). ap settled (there k h) ∙ was.said k u at)
        (cases_eq k m)
    said_on (Some d) here k u at = ⊎_elim
        (λ (h : (k ≡ m) × (v : Used T) × (get_elem? us m ≡ some v) × (did d v ≡ u)). ap (λ j. settled (part_of r j)) h.0 ∙ (here ∙ (ap (did d) (was.said m h.1 h.2) ∙ h.3)))
        (λ (h : (k ≢ m) × (get_elem? us k ≡ some u)). ap settled (there k h.0) ∙ was.said k u h.1)
        (at_did m d us k u at)

    -- where the share has changed at one buffer
    pub used_on : {b : Known (Held T) (List (Note T)) W} (d : Opt (Did T)) → IsIdle p n r b → settled (part_of r m) ≡ did_last d (settled (part_of was.share m)) → Falls (part_of r m).puts × Falls (part_of r m).takes → HasUsed p n (done_at m d us) b
    used_on d idle here falls = record {
      share = r;
      idle = idle;
      said = said_on d here;
      ordered = λ k. ⊎_elim
          (λ (e : k ≡ m). subst (λ j. Falls (part_of r j).puts × Falls (part_of r j).takes) (sym e) falls)
          (λ (h : k ≢ m). subst (λ u. Falls u.puts × Falls u.takes) (sym (there k h)) (was.ordered k))
          (cases_eq k m);
    }

  -- after a call that put or took, or was refused or alerted
  pub used_ran : {W : Type 0} {p : Shape W} {n : ℕ} {us : List (Used T)} {a b : Known (Held T) (List (Note T)) W} (was : HasUsed p n us a) → ((r : List (Note T)) → b.share ≡ Some r → IsIdle p n r b)
      → {ring_in : Held T → Opt (Held T)} {after : W → ℕ → ℕ → Held T → Held T → List (Note T) → List (Note T)} {alike : List (Note T) → List (Note T) → Type 0} {w : W} {m c o t : ℕ} {more : ℕ → Used T → Used T} {d : Opt (Did T)}
      → Ran ring_in part_of after alike w m c o t more d was.share a b → ((k : ℕ) (u : Used T) → settled (did_last d (more k u)) ≡ did_last d (settled u))
      → ((k : ℕ) → Falls (did_last d (more k (part_of was.share m))).puts × Falls (did_last d (more k (part_of was.share m))).takes) → HasUsed p n (done_at m d us) b
  used_ran was idle {m = m} {d = d} ran settles falls =
      let k = wait_count d ran.waited in
      used_on was m ran.share ran.elsewhere d (idle ran.share ran.is_share) (ap settled ran.here ∙ settles k (part_of was.share m)) (subst (λ u. Falls u.puts × Falls u.takes) (sym ran.here) (falls k))

  at_none : (c k : ℕ) (u : Used T) → get_elem? (replicate c unused) k ≡ some u → unused ≡ u
  at_none zero k u e = absurd (some-ne-none u (sym e))
  at_none (suc c) zero u e = some-injective unused u e
  at_none (suc c) (suc k) u e = at_none c k u e

  -- who has done nothing has done nothing at the first buffers
  pub used_first : {W : Type 0} (p : Shape W) (n c : ℕ) (t : Known (Held T) (List (Note T)) W) → IsIdle p n [] t → HasUsed p n (replicate c unused) t
  used_first p n c t idle = record { share = []; idle = idle; said = at_none c; ordered = λ k. (tt, tt) }

pub plain_named : (l : Layout) (at : BufferAt) (k : ℕ) → IsPlain at → at.mutex.0 ≡ k → k < l.mutexes → 2 * k + 1 < l.conditions → IsNamed l at
plain_named l at k is same low wide = let room = is.room in let more = is.more in record { mutex = omega arith; room = omega arith; more = omega arith }
