-- Spin words and queues: how steps change them.
use Rattle.std.proofs.Common.{◌≡◌, ◌≢◌, ℕ, ◌<◌, List, [], length, get_or, set, length-set, sym, ap, ◌∙◌, subst, inl, inr, ⊎_elim, arith, get_or-set_same, Some, None}
use mathlib.Core.Logic.{dite}
use mathlib.Core.Option.{Option, some, none, some-injective, some-ne-none}
use native.Mathlib.Decide.{ℕ_discrete}
use lib.ListN.{get_elem?}
use Rattle.larch_actions.specs.Actions.{put}
use Rattle.atomic_table.proofs.Lists.{set_else, set_here}
use Rattle.nub_rule.specs.declared.rule.Slot.{Slot}
use Rattle.nub_rule.specs.declared.rule.Slot.TheVariants.{Queue}
use Rattle.nub_rule.specs.declared.view.Part.{Part}
use Rattle.nub_rule.specs.Items.{Marks, Flag, Spinning, Spins, queue_of}
use Rattle.nub_rule.specs.Places.{spin_at, length_at, queue_at, word_count}
use Rattle.nub_rule.proofs.Each.{at_within, each-set, put-here, put-else}
use Rattle.nub_rule.proofs.Frames.{other}
use Rattle.nub_rule.proofs.Lines.{same_object, no_object}

other_object : (o k : ℕ) → o ≢ k → Some o ≡ Some k → ⊥
other_object o k ne e = ne (same_object o k e)

-- a word that has an owner or is 0, and isn't 0, is 1
pub taken-by : (x : ℕ) (owner : Option ℕ) → Marks x owner → x ≢ 0 → x ≡ 1
taken-by x owner m up = ⊎_elim (λ (t : (x ≡ 0) × (owner ≡ none)). absurd (up t.0)) (λ (t : (x ≡ 1) × ((k : ℕ) × (owner ≡ some k))). t.0) m

module _ {T H : Type 0} (spinner : ℕ → Option ℕ) (queue owed : ℕ → List ℕ) (words : List ℕ) (homes : List (Option (Slot T))) (all : List (Part T H)) (n : ℕ) (p q : Part T H) (at : get_elem? all n ≡ some p) (s : Spins spinner queue owed words homes all) where
  pub only_here : (o : ℕ) → p.spin ≡ Some o → (k : ℕ) → spinner k ≡ some n → k ≡ o
  only_here o here k is = sym (same_object o k (sym here ∙ (s.spinning n p at k).1 is))

  -- the thread n takes the spin word of o, which nobody has
  pub spins-take : (o : ℕ) → o < 192 → length words ≡ word_count → spinner o ≡ none → p.spin ≡ None → q.spin ≡ Some o → q.queue ≡ queue o → q.owed ≡ []
      → Spins (put spinner o (some n)) queue owed (set words (spin_at o) 1) (set homes (queue_at o) none) (set all n q)
  spins-take o low wide free idle es eq eo =
      let words' : List ℕ = set words (spin_at o) 1 in let homes' : List (Option (Slot T)) = set homes (queue_at o) none in let spinner' = put spinner o (some n) in
      let now : spinner' o ≡ some n = put-here spinner o (some n) in record {
        spin = λ k lo. dite (ℕ_discrete k o)
            (λ e. subst (λ (z : ℕ). Flag words' (spin_at z) (spinner' z)) (sym e) (inr (get_or-set_same words (spin_at o) 1 0 (omega arith), (n, now))))
            (λ ne. subst (λ (z : ℕ × Option ℕ). Marks z.0 z.1) (λ i. (sym (other words (spin_at o) (spin_at k) 1 (λ z. ne (omega arith))) i, sym (put-else spinner o k (some n) ne) i)) (s.spin k lo));
        within = λ k j is. subst (λ (z : ℕ). j < z) (sym (length-set all n q)) (dite (ℕ_discrete k o)
            (λ e. subst (λ (z : ℕ). z < length all) (some-injective n j (sym now ∙ (ap spinner' (sym e) ∙ is))) (at_within all n p at))
            (λ ne. s.within k j (sym (put-else spinner o k (some n) ne) ∙ is)));
        home = λ k lo none_has. dite (ℕ_discrete k o)
            (λ e. absurd (some-ne-none n (sym now ∙ (ap spinner' (sym e) ∙ none_has))))
            (λ ne. set_else homes (queue_at o) (queue_at k) none ne ∙ s.home k lo (sym (put-else spinner o k (some n) ne) ∙ none_has));
        measured = λ k lo. other words (spin_at o) (length_at k) 1 (λ z. omega arith) ∙ s.measured k lo;
        settled = λ k none_has. dite (ℕ_discrete k o)
            (λ e. absurd (some-ne-none n (sym now ∙ (ap spinner' (sym e) ∙ none_has))))
            (λ ne. s.settled k (sym (put-else spinner o k (some n) ne) ∙ none_has));
        spinning = each-set (Spinning spinner queue owed) (Spinning spinner' queue owed) all n q
            (λ k. dite (ℕ_discrete k o)
            (λ e. ((λ _. (ap spinner' e ∙ now, eq ∙ ap queue (sym e), eo ∙ (sym (s.settled o free) ∙ ap owed (sym e)))), λ _. es ∙ ap (λ (z : ℕ). Some z) (sym e)))
            (λ ne. ((λ is. absurd (other_object o k (λ z. ne (sym z)) (sym es ∙ is))), λ own. absurd (no_object k (sym idle ∙ (s.spinning n p at k).1 (sym (put-else spinner o k (some n) ne) ∙ own))))))
            (λ j x ne at' t k. dite (ℕ_discrete k o)
            (λ e. ((λ is. absurd (some-ne-none j (sym ((t k).0 is).0 ∙ (ap spinner e ∙ free)))), λ own. absurd (ne (some-injective j n (sym own ∙ (ap spinner' e ∙ now))))))
            (λ other. let still = put-else spinner o k (some n) other in ((λ is. let u = (t k).0 is in (still ∙ u.0, u.1, u.2)), λ own. (t k).1 (sym still ∙ own))))
            s.spinning;
      }

  -- the thread n gives the spin word of o back, with its queue
  pub spins-give : (o : ℕ) → o < 192 → length words ≡ word_count → queue_at o < length homes → p.spin ≡ Some o → p.owed ≡ [] → q.spin ≡ None
      → Spins (put spinner o none) queue owed (set words (spin_at o) 0) (set homes (queue_at o) (some (Queue (queue_of p.queue)))) (set all n q)
  spins-give o low wide long here none_owed es =
      let line : Slot T = Queue (queue_of p.queue) in let words' : List ℕ = set words (spin_at o) 0 in let homes' : List (Option (Slot T)) = set homes (queue_at o) (some line) in let spinner' = put spinner o none in
      let mine = (s.spinning n p at o).0 here in
      let now : spinner' o ≡ none = put-here spinner o none in record {
        spin = λ k lo. dite (ℕ_discrete k o)
            (λ e. subst (λ (z : ℕ). Flag words' (spin_at z) (spinner' z)) (sym e) (inl (get_or-set_same words (spin_at o) 0 0 (omega arith), now)))
            (λ ne. subst (λ (z : ℕ × Option ℕ). Marks z.0 z.1) (λ i. (sym (other words (spin_at o) (spin_at k) 0 (λ z. ne (omega arith))) i, sym (put-else spinner o k none ne) i)) (s.spin k lo));
        within = λ k j is. subst (λ (z : ℕ). j < z) (sym (length-set all n q)) (dite (ℕ_discrete k o)
            (λ e. absurd (some-ne-none j (sym is ∙ (ap spinner' e ∙ now))))
            (λ ne. s.within k j (sym (put-else spinner o k none ne) ∙ is)));
        home = λ k lo free. dite (ℕ_discrete k o)
            (λ e. subst (λ (z : ℕ). get_elem? homes' (queue_at z) ≡ some (some (Queue (queue_of (queue z))))) (sym e)
            (set_here homes (queue_at o) (some line) long ∙ ap (λ (z : List ℕ). some (some (Queue (queue_of z)))) mine.1))
            (λ ne. set_else homes (queue_at o) (queue_at k) (some line) ne ∙ s.home k lo (sym (put-else spinner o k none ne) ∙ free));
        measured = λ k lo. other words (spin_at o) (length_at k) 0 (λ z. omega arith) ∙ s.measured k lo;
        settled = λ k free. dite (ℕ_discrete k o)
            (λ e. ap owed e ∙ (sym mine.2 ∙ none_owed))
            (λ ne. s.settled k (sym (put-else spinner o k none ne) ∙ free));
        spinning = each-set (Spinning spinner queue owed) (Spinning spinner' queue owed) all n q
            (λ k. (
              (λ is. absurd (no_object k (sym es ∙ is))),
              λ has. dite (ℕ_discrete k o)
                  (λ e. absurd (some-ne-none n (sym has ∙ (ap spinner' e ∙ now))))
                  (λ ne. absurd (ne (only_here o here k (sym (put-else spinner o k none ne) ∙ has)))),
            ))
            (λ j x ne at' t k. dite (ℕ_discrete k o)
            (λ e. ((λ is. absurd (ne (some-injective j n (sym ((t k).0 is).0 ∙ (ap spinner e ∙ mine.0))))), λ has. absurd (some-ne-none j (sym has ∙ (ap spinner' e ∙ now)))))
            (λ other. let still = put-else spinner o k none other in ((λ is. let u = (t k).0 is in (still ∙ u.0, u.1, u.2)), λ has. (t k).1 (sym still ∙ has))))
            s.spinning;
      }

  -- the thread n, which has the spin word of o, changes its queue to ys, and those that it owes to zs
  pub spins-change : (o : ℕ) (ys zs : List ℕ) (queue' owed' : ℕ → List ℕ) (words' : List ℕ) → o < 192 → p.spin ≡ Some o → q.spin ≡ p.spin → q.queue ≡ ys → q.owed ≡ zs
      → queue' o ≡ ys → ((k : ℕ) → k ≢ o → queue' k ≡ queue k) → owed' o ≡ zs → ((k : ℕ) → k ≢ o → owed' k ≡ owed k)
      → ((k : ℕ) → k < 192 → get_or words' (spin_at k) 0 ≡ get_or words (spin_at k) 0) → get_or words' (length_at o) 0 ≡ length ys → ((k : ℕ) → k < 192 → k ≢ o → get_or words' (length_at k) 0 ≡ get_or words (length_at k) 0)
      → Spins spinner queue' owed' words' homes (set all n q)
  spins-change o ys zs queue' owed' words' low here es eq eo qh qe oh oe ws long ls =
      let own : spinner o ≡ some n = ((s.spinning n p at o).0 here).0 in record {
        spin = λ k lo. subst (λ (x : ℕ). Marks x (spinner k)) (sym (ws k lo)) (s.spin k lo);
        within = λ k j is. subst (λ (z : ℕ). j < z) (sym (length-set all n q)) (s.within k j is);
        home = λ k lo free. dite (ℕ_discrete k o)
            (λ e. absurd (some-ne-none n (sym own ∙ (ap spinner (sym e) ∙ free))))
            (λ ne. s.home k lo free ∙ ap (λ (z : List ℕ). some (some (Queue (queue_of z)))) (sym (qe k ne)));
        measured = λ k lo. dite (ℕ_discrete k o)
            (λ e. subst (λ (z : ℕ). get_or words' (length_at z) 0 ≡ length (queue' z)) (sym e) (long ∙ ap (λ (z : List ℕ). length z) (sym qh)))
            (λ ne. ls k lo ne ∙ (s.measured k lo ∙ ap (λ (z : List ℕ). length z) (sym (qe k ne))));
        settled = λ k free. dite (ℕ_discrete k o)
            (λ e. absurd (some-ne-none n (sym own ∙ (ap spinner (sym e) ∙ free))))
            (λ ne. oe k ne ∙ s.settled k free);
        spinning = each-set (Spinning spinner queue owed) (Spinning spinner queue' owed') all n q
            (λ k. let t = s.spinning n p at k in
            ((λ is. let e = same_object o k (sym here ∙ (sym es ∙ is)) in ((t.0 (sym es ∙ is)).0, eq ∙ (sym qh ∙ ap queue' e), eo ∙ (sym oh ∙ ap owed' e))), λ has. es ∙ t.1 has))
            (λ j x ne at' t k. ((λ is. let u = (t k).0 is in let apart : k ≢ o = λ e. ne (some-injective j n (sym u.0 ∙ (ap spinner e ∙ own))) in (u.0, u.1 ∙ sym (qe k apart), u.2 ∙ sym (oe k apart))), (t k).1)) s.spinning;
      }
