-- The steps on a spin word keep the rule.
use Rattle.std.proofs.Common.{Bool, true, ◌≡◌, ℕ, eqb, ◌-◌, ◌<◌, ◌⊎◌, List, [], ◌∷◌, ◌++◌, length, get_or, set, refl, sym, ap, ◌∙◌, subst, inl, inr, ⊎_elim, arith, length-set, Some, None, eq-eqb, ne_eqb}
use mathlib.Core.Logic.{dite}
use mathlib.Core.Option.{Option, some, none}
use native.Mathlib.Decide.{ℕ_discrete}
use prog.Atomic.{either}
use Rattle.larch_actions.specs.declared.event.Layout.{Layout}
use Rattle.larch_actions.specs.Actions.{put}
use Rattle.larch_actions.specs.Sets.{mem, without}
use Rattle.atomic_table.specs.Table.{Me, step, Allows, keeps, takes, gives, put_back, rest}
use Rattle.atomic_table.proofs.Lists.{set_else}
use Rattle.larch_actions.specs.declared.event.Life.TheVariants.{Live}
use Rattle.nub_rule.specs.declared.rule.Slot.{Slot}
use Rattle.nub_rule.specs.declared.rule.Slot.TheVariants.{Queue}
use Rattle.nub_rule.specs.declared.view.Part.{Part}
use Rattle.nub_rule.specs.declared.view.View.{View}
use Rattle.nub_rule.specs.declared.view.Kind.TheVariants.{Member}
use Rattle.nub_rule.specs.Items.{Small, queue_of, Marks, Core}
use Rattle.nub_rule.specs.Parts.{stands_at}
use Rattle.nub_rule.specs.Places.{most_threads, bit_at, spin_at, queue_at, value_at}
use Rattle.nub_rule.specs.Plays.{with_part, take_spin_records, give_spin_records}
use Rattle.nub_rule.specs.Rule.{IsKept}
use Rattle.nub_rule.proofs.Each.{at_within}
use Rattle.nub_rule.proofs.Idle.{idle-live, idle-spun}
use Rattle.nub_rule.proofs.Members.{Steps, member_steps}
use Rattle.nub_rule.proofs.Frames.{lives-stay, pens-frame, other, bits-stay, ready-stay, shown-stay, pen-stay, alert-seen-stays}
use Rattle.nub_rule.proofs.Lines.{no_object, not_true, stand_none, distinct-tail_of, mem-tail_of, lines-same}
use Rattle.nub_rule.proofs.Counting.{room_to_push, small_of}
use Rattle.nub_rule.proofs.Showing.{shows-spin, shows-unspin}
use Rattle.nub_rule.proofs.Spinning.{only_here, taken-by, spins-take, spins-give}
use Rattle.nub_rule.proofs.Beside.{beside, idle}
use Rattle.nub_rule.proofs.Beginning.{waits-stay, begun-same}
use Rattle.nub_rule.proofs.Owing.{owes-frame}

pub nobody-by : (x : ℕ) (owner : Option ℕ) → Marks x owner → x ≡ 0 → owner ≡ none
nobody-by x owner m z = ⊎_elim (λ (t : (x ≡ 0) × (owner ≡ none)). t.1) (λ (t : (x ≡ 1) × ((k : ℕ) × (owner ≡ some k))). let u = t.0 in absurd (omega arith)) m

pub one-by : (x n : ℕ) (owner : Option ℕ) → Marks x owner → owner ≡ some n → x ≡ 1
one-by x n owner m own = ⊎_elim (λ (t : (x ≡ 0) × (owner ≡ none)). absurd (let z : none ≡ some n = sym t.1 ∙ own in cc)) (λ (t : (x ≡ 1) × ((k : ℕ) × (owner ≡ some k))). t.0) m

module _ {T H W : Type 0} (l : Layout) (traced : Bool) (w : W) (begin : W → ℕ → H) (holds : W → List T → List H → Type 0) where
  -- the winner of a spin word learns the queue
  abbrev Spun : ℕ → ℕ → Part T H → List (ℕ × Slot T) → Part T H → List (ℕ × Slot T) → Type 0
  Spun n o p cs q ds = (xs : List ℕ) × (k : ℕ) × (p.stand ≡ None → length xs < most_threads) × Small most_threads xs × (mem n xs ≡ true → stands_at p.stand o ≡ true) × (q ≡ record p { spin = Some o; queue = xs; owed = []; left = xs; count = k; failed = without o p.failed }) × (ds ≡ (queue_at o, Queue (queue_of xs)) ∷ cs)

  spins_at : (n o : ℕ) (p : Part T H) (cs : List (ℕ × Slot T)) → o < 192 → p.spin ≡ None
      → Steps l traced w begin holds n (spin_at o) (λ x. either (eqb x 0) 1 x) p cs (λ r q ds. ((r ≡ 0) × Spun n o p cs q ds) ⊎ ((r ≡ 1) × (q ≡ p) × (ds ≡ cs)))
  spins_at n o p cs low idle_there words homes all c at small = let r : ℕ = get_or words (spin_at o) 0 in let s = c.spins in dite (ℕ_discrete r 0)
      (λ hit.
      let free : c.spinner o ≡ none = nobody-by r (c.spinner o) (s.spin o low) hit in
      let xs : List ℕ = c.queue o in
      let q : Part T H = record p { spin = Some o; queue = xs; owed = []; left = xs; count = c.shows.conditions.count (o - 128); failed = without o p.failed } in
      let words' : List ℕ = set words (spin_at o) 1 in
      let homes' : List (Option (Slot T)) = set homes (queue_at o) none in
      let lines = c.lines in
      let few = c.sizes.few in
      let inside : (t : ℕ) → mem t xs ≡ true → mem t (c.owed o ++ c.queue o) ≡ true = λ t there. mem-tail_of t (c.owed o) xs there in
      let there : mem n xs ≡ true → stands_at p.stand o ≡ true = λ is. ((lines.stands n p at).lined o (inside n is)).0 in (
        q,
        takes (queue_at o) (Queue (queue_of xs)),
        s.home o low free,
        subst (λ b. Core l traced w holds (set words (spin_at o) (either b 1 r)) homes' (set all n q)) (sym (eq-eqb r 0 hit))
            (beside l traced w holds words words' homes homes' all n p q at (length-set words (spin_at o) 1) (length-set homes (queue_at o) none) (bits-stay words (spin_at o) 1 (λ k up z. omega arith)) (lives-stay words (spin_at o) 1 (λ k up z. omega arith)) (λ m. set_else homes (queue_at o) (value_at m) none (λ z. omega arith))
            record { version = refl; life = refl; seen = refl; mine = refl; places = refl; held = refl; share = refl; stints = refl; closing = λ m. refl } (put c.spinner o (some n)) c.writer c.queue c.owed c
            (spins-take c.spinner c.queue c.owed words homes all n p q at s o low c.sizes.words_wide free idle_there refl refl refl)
            (lines-same (λ i. c.owed i ++ c.queue i) (λ i. c.owed i ++ c.queue i) words words' all n p q at few (ready-stay words (spin_at o) 1 (λ k up z. omega arith)) (λ i. refl) refl lines)
            (shows-spin words words' (shown-stay words (spin_at o) 1 (λ k up z. omega arith) (λ k up z. omega arith) (λ k up z. omega arith)) c.spinner c.queue c.owner c.spec all n p q at refl o refl refl refl free (λ k is. no_object k (sym idle_there ∙ (s.spinning n p at k).1 is)) c.shows refl)
            (pens-frame all n p q at traced (length c.log) c.writer words words' (pen-stay words (spin_at o) 1 (λ z. omega arith) (λ z. omega arith)) refl c.pens)
            (alert-seen-stays all n p q at words (spin_at o) 1 c.sizes.few (λ k up z. omega arith) refl c.alert_seen)
            (owes-frame c.queue words words' all n p q at (λ k lo. other words (spin_at o) (bit_at k) 1 (λ z. omega arith)) refl refl refl c.owes)
            (begun-same words words' all n p q at (waits-stay words (spin_at o) 1 (λ j lo z. omega arith)) refl refl refl c.begun)),
        inl (
          hit,
          (
            xs,
            c.shows.conditions.count (o - 128),
            (λ out. let room = room_to_push (length all) n xs (distinct-tail_of (c.owed o) xs (lines.distinct o)) (λ t is. lines.people o t (inside t is)) (at_within all n p at) (not_true (mem n xs) (λ is. stand_none p.stand o out (there is))) in omega arith),
            small_of most_threads xs (λ t is. let a = lines.people o t (inside t is) in omega arith),
            there,
            refl,
            refl,
          ),
        ),
      ))
      (λ miss. (p, keeps, tt, subst (λ b. Core l traced w holds (set words (spin_at o) (either b 1 r)) homes (set all n p)) (sym (ne_eqb r 0 miss)) (idle l traced w holds words homes all (spin_at o) n p at c), inr (taken-by r (c.spinner o) (s.spin o low) miss, refl, refl)))

  take_spin_at : (slots id o : ℕ) (me : Me (Slot T) (View T H W)) → o < 192 → me.0.kind ≡ Member → me.0.part.life ≡ Live → me.0.part.spin ≡ None → Allows (IsKept l traced w begin holds) slots id me (spin_at o) (λ x. either (eqb x 0) 1 x) (take_spin_records (step slots (spin_at o) 0 1 none) me)
  take_spin_at slots id o me low kind live idle_there = let v = me.0 in let n = v.number in let p = v.part in member_steps l traced w begin holds slots id (spin_at o) (λ x. either (eqb x 0) 1 x) v me.1
      (λ r q ds. ((r ≡ 0) × Spun n o p me.1 q ds) ⊎ ((r ≡ 1) × (q ≡ p) × (ds ≡ me.1))) (take_spin_records (step slots (spin_at o) 0 1 none) me) kind
      (λ r q ds t. idle-live p q v.child live (⊎_elim (λ (u : (r ≡ 0) × Spun n o p me.1 q ds). ap (λ (z : Part T H). z.life) u.1.5) (λ (u : (r ≡ 1) × (q ≡ p) × (ds ≡ me.1)). ap (λ (z : Part T H). z.life) u.1) t))
      (λ r q ds world t. ⊎_elim
      (λ (u : (r ≡ 0) × Spun n o p me.1 q ds). (
        (λ k is hit. let e : o ≡ k = omega arith in
            let x = u.1 in (x.0, x.1, x.2, x.3, (λ there. (λ i. stands_at p.stand (sym e i)) ∙ x.4 there), (λ i. (with_part v (x.5 i), x.6 i)) ∙ (λ i. (with_part v (record p { spin = Some (e i); queue = x.0; owed = []; left = x.0; count = x.1; failed = without (e i) p.failed }), (queue_at (e i), Queue (queue_of x.0)) ∷ me.1)))),
        λ miss. absurd (miss u.0),
      ))
      (λ (u : (r ≡ 1) × (q ≡ p) × (ds ≡ me.1)). ((λ k is hit. let one = u.0 in absurd (omega arith)), λ _. (u.0, λ i. (with_part v (u.1 i), u.2 i)))) t)
      (spins_at n o p me.1 low idle_there)

  -- the same at a word that is this place
  pub take_spin_keeps : (slots id o : ℕ) (me : Me (Slot T) (View T H W)) (i : ℕ) → i ≡ spin_at o → o < 192 → me.0.kind ≡ Member → me.0.part.life ≡ Live → me.0.part.spin ≡ None → Allows (IsKept l traced w begin holds) slots id me i (λ x. either (eqb x 0) 1 x) (take_spin_records (step slots i 0 1 none) me)
  take_spin_keeps slots id o me i word low kind live idle_there = subst (λ (i : ℕ). Allows (IsKept l traced w begin holds) slots id me i (λ x. either (eqb x 0) 1 x) (take_spin_records (step slots i 0 1 none) me)) (sym word) (take_spin_at slots id o me low kind live idle_there)

  give_spin_at : (slots id o : ℕ) (me : Me (Slot T) (View T H W)) → o < 192 → me.0.kind ≡ Member → me.0.part.spin ≡ Some o → me.0.part.owed ≡ [] → me.0.part.left ≡ me.0.part.queue → me.1 ≡ (queue_at o, Queue (queue_of me.0.part.queue)) ∷ rest me.1
      → Allows (IsKept l traced w begin holds) slots id me (spin_at o) (λ _. 0) (give_spin_records (step slots (spin_at o) 0 0 none) me)
  give_spin_at slots id o me low kind here none_owed even first = let v = me.0 in let n = v.number in let p = v.part in let q : Part T H = record p { spin = None; queue = []; left = [] } in
      member_steps l traced w begin holds slots id (spin_at o) (λ _. 0) v me.1 (λ r s ds. (r ≡ 1) × (s ≡ q) × (ds ≡ rest me.1)) (give_spin_records (step slots (spin_at o) 0 0 none) me) kind
      (λ r s ds t. idle-spun p s v.child o here (ap (λ (z : Part T H). z.life) t.1))
      (λ r s ds world t. (t.0, λ i. (with_part v (t.1 i), t.2 i)))
      (λ words homes all c at small.
      let s = c.spins in
      let mine = (s.spinning n p at o).0 here in
      let line : Slot T = Queue (queue_of p.queue) in
      let words' : List ℕ = set words (spin_at o) 0 in
      let homes' : List (Option (Slot T)) = set homes (queue_at o) (some line) in
      let hs = c.sizes.homes_wide in (
        q,
        gives,
        tt,
        subst (λ (z : List (Option (Slot T))). Core l traced w holds words' z (set all n q)) (ap (put_back homes) (sym first))
            (beside l traced w holds words words' homes homes' all n p q at (length-set words (spin_at o) 0) (length-set homes (queue_at o) (some line)) (bits-stay words (spin_at o) 0 (λ k up z. omega arith)) (lives-stay words (spin_at o) 0 (λ k up z. omega arith)) (λ m. set_else homes (queue_at o) (value_at m) (some line) (λ z. omega arith))
            record { version = refl; life = refl; seen = refl; mine = refl; places = refl; held = refl; share = refl; stints = refl; closing = λ m. refl } (put c.spinner o none) c.writer c.queue c.owed c
            (spins-give c.spinner c.queue c.owed words homes all n p q at s o low c.sizes.words_wide (omega arith) here none_owed refl)
            (lines-same (λ i. c.owed i ++ c.queue i) (λ i. c.owed i ++ c.queue i) words words' all n p q at c.sizes.few (ready-stay words (spin_at o) 0 (λ k up z. omega arith)) (λ i. refl) refl c.lines)
            (shows-unspin words words' (shown-stay words (spin_at o) 0 (λ k up z. omega arith) (λ k up z. omega arith) (λ k up z. omega arith)) c.spinner c.queue c.owner c.spec all n p q at refl o refl refl mine.0 (only_here c.spinner c.queue c.owed words homes all n p q at s o here) (even ∙ mine.1) c.shows)
            (pens-frame all n p q at traced (length c.log) c.writer words words' (pen-stay words (spin_at o) 0 (λ z. omega arith) (λ z. omega arith)) refl c.pens)
            (alert-seen-stays all n p q at words (spin_at o) 0 c.sizes.few (λ k up z. omega arith) refl c.alert_seen)
            (owes-frame c.queue words words' all n p q at (λ k lo. other words (spin_at o) (bit_at k) 0 (λ z. omega arith)) refl refl refl c.owes)
            (begun-same words words' all n p q at (waits-stay words (spin_at o) 0 (λ j lo z. omega arith)) refl refl refl c.begun)),
        (one-by (get_or words (spin_at o) 0) n (c.spinner o) (s.spin o low) mine.0, refl, refl),
      ))

  -- the same at a word that is this place
  pub give_spin_keeps : (slots id o : ℕ) (me : Me (Slot T) (View T H W)) (i : ℕ) → i ≡ spin_at o → o < 192 → me.0.kind ≡ Member → me.0.part.spin ≡ Some o → me.0.part.owed ≡ [] → me.0.part.left ≡ me.0.part.queue → me.1 ≡ (queue_at o, Queue (queue_of me.0.part.queue)) ∷ rest me.1
      → Allows (IsKept l traced w begin holds) slots id me i (λ _. 0) (give_spin_records (step slots i 0 0 none) me)
  give_spin_keeps slots id o me i word low kind here none_owed even first = subst (λ (i : ℕ). Allows (IsKept l traced w begin holds) slots id me i (λ _. 0) (give_spin_records (step slots i 0 0 none) me)) (sym word) (give_spin_at slots id o me low kind here none_owed even first)
