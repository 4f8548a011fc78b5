-- Workers before and after their work.
use Rattle.std.proofs.Common.{◌≡◌, ◌⊎◌, ℕ, ◌+◌, List, [], ◌∷◌, ◌++◌, map, length, refl, sym, ◌∙◌, ap, subst, ⊎_elim, arith, Vec, Global}
use Rattle.std.specs.List.{AllZip, AllByRecursion}
use Rattle.nub_rule.specs.Known.{Shape}
use Rattle.job_pool.specs.declared.item.Item.{Item}
use Rattle.job_pool.specs.Crews.{IsReady, AreReady}
use Rattle.job_pool.specs.Batches.{CameOf}
use Rattle.job_pool.specs.Working.{Worker, HasWorked, IsBetween, AreBetween, takes_of, all_puts_of}
use Rattle.job_pool.proofs.Moving.{first_between, first_puts, first_takes}
use Rattle.job_pool.proofs.Placing.{came_nothing}

module _ {T : Type 0} (p : Shape (Unit {0})) (room : ℕ) where
  pub ready_more : (n : ℕ) (ws : List (Worker T × Vec (Item T) Global)) (w : Worker T × Vec (Item T) Global) → w.0.number ≡ n + length ws → IsReady p room w → AreReady p room n ws
      → AreReady p room n (ws ++ w ∷ [])
  ready_more n [] w e r h = (e ∙ omega arith, r, tt)
  ready_more n (v ∷ ws) w e r h = (h.0, h.1, ready_more (n + 1) ws w (e ∙ omega arith) r h.2)

  pub each_ready : (n : ℕ) (ws : List (Worker T × Vec (Item T) Global)) → AreReady p room n ws → AllByRecursion (IsReady p room) ws
  each_ready n [] h = tt
  each_ready n (w ∷ ws) h = (h.1, each_ready (n + 1) ws h.2)

module _ {T : Type 0} (goes : T → T → Type 0) (p : Shape (Unit {0})) (room : ℕ) where
  -- worked, or nothing was done
  abbrev pub Came : Worker T × Vec (Item T) Global → Worker T × Vec (Item T) Global → Type 0
  Came w r = (r ≡ w) ⊎ HasWorked goes p w.0.number r.1.items r.0

  -- who did nothing has worked on what it took, which is nothing
  idle_worked : (w : Worker T × Vec (Item T) Global) → IsReady p room w → HasWorked goes p w.0.number w.1.items w.0
  idle_worked w r = record {
    between = first_between p w.0.number w.0 r.first;
    no_puts = first_puts p w.0.number w.0 r.first;
    came = subst (λ l. CameOf goes l w.1.items) (sym (first_takes p w.0.number w.0 r.first)) (subst (λ l. CameOf goes [] l) (sym r.empty) (came_nothing goes));
  }

  worked : (w r : Worker T × Vec (Item T) Global) → IsReady p room w → Came w r → HasWorked goes p w.0.number r.1.items r.0
  worked w r ready came = ⊎_elim
      (λ (e : r ≡ w). subst (λ x. HasWorked goes p w.0.number x.1.items x.0) (sym e) (idle_worked w ready))
      (λ (h : HasWorked goes p w.0.number r.1.items r.0). h)
      came

  -- all that is known of the crew
  pub record Crew (n : ℕ) (rs : List (Worker T × Vec (Item T) Global)) : Type 0 where
    pub between : AreBetween p n (map (λ r. r.0) rs)
    pub no_puts : all_puts_of (map (λ r. r.0) rs) ≡ []
    pub came : AllByRecursion (λ r. CameOf goes (takes_of r.0) r.1.items) rs

  pub crew_of : (n : ℕ) (ws rs : List (Worker T × Vec (Item T) Global)) → AreReady p room n ws → AllZip Came ws rs → Crew n rs
  crew_of n [] [] ready z = record { between = tt; no_puts = refl; came = tt }
  crew_of n [] (r ∷ rs) ready z = absurd z
  crew_of n (w ∷ ws) [] ready z = absurd z
  crew_of n (w ∷ ws) (r ∷ rs) ready z =
      let h = worked w r ready.1 z.0 in
      let rest = crew_of (n + 1) ws rs ready.2 z.1 in
      record {
        between = (subst (λ k. IsBetween p k r.0) ready.0 h.between, rest.between);
        no_puts = ap (λ l. l ++ all_puts_of (map (λ r. r.0) rs)) h.no_puts ∙ rest.no_puts;
        came = (h.came, rest.came);
      }
