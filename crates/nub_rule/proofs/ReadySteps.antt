-- The steps on a ready word keep the rule.
use Rattle.std.proofs.Common.{Bool, true, ◌≡◌, ◌≢◌, ℕ, ◌<◌, ◌⊎◌, List, [], ◌++◌, length, get_or, set, refl, sym, ap, ◌∙◌, subst, inl, inr, ⊎_elim, arith, length-set, get_or-set_same, Some, None}
use Rattle.std.specs.Prelude.{Option as Opt}
use mathlib.Core.Logic.{dite}
use mathlib.Core.Option.{Option, some, none}
use native.Mathlib.Decide.{ℕ_discrete}
use lib.ListN.{get_elem?}
use Rattle.larch_actions.specs.declared.event.Layout.{Layout}
use Rattle.larch_actions.specs.Actions.{put}
use Rattle.larch_actions.specs.Sets.{mem, without}
use Rattle.atomic_table.specs.Table.{Me, step, Allows, keeps}
use Rattle.nub_rule.specs.declared.rule.Slot.{Slot}
use Rattle.nub_rule.specs.declared.view.Part.{Part}
use Rattle.nub_rule.specs.declared.view.Stand.{Stand}
use Rattle.nub_rule.specs.declared.view.Stage.{Stage}
use Rattle.nub_rule.specs.declared.view.Stage.TheVariants.{Asleep, Found}
use Rattle.nub_rule.specs.declared.view.View.{View}
use Rattle.nub_rule.specs.declared.view.Kind.TheVariants.{Member}
use Rattle.nub_rule.specs.Items.{Core}
use Rattle.nub_rule.specs.Parts.{staged, turned, IsFound, IsUntested, HasTested}
use Rattle.nub_rule.specs.Places.{most_threads, bit_at, ready_at}
use Rattle.nub_rule.specs.Owed.{IsAsleep}
use Rattle.nub_rule.specs.Plays.{with_part, set_ready_records, read_ready_records, clear_ready_records}
use Rattle.nub_rule.specs.Rule.{IsKept}
use Rattle.nub_rule.proofs.Apart.{thread-of}
use Rattle.nub_rule.proofs.Each.{at_below, put-here, put-else}
use Rattle.nub_rule.proofs.Idle.{idle-spun, idle-stood}
use Rattle.nub_rule.proofs.Members.{member_steps}
use Rattle.nub_rule.proofs.Frames.{lives-stay, other, spins-frame, shows-frame, pens-frame, bits-stay, spins-stay, shown-stay, pen-stay, alert-seen-stays, alert-seen-frame}
use Rattle.nub_rule.proofs.Lines.{some_none, false_true, mem-append, distinct-apart, without-append, without-absent, lines-ready, lines-unready, lines-stage}
use Rattle.nub_rule.proofs.Spinning.{spins-change}
use Rattle.nub_rule.proofs.Beside.{beside, still}
use Rattle.nub_rule.proofs.Beginning.{waits-stay, begun-frame, begun-same, counted-stands}
use Rattle.nub_rule.proofs.Owing.{owes-frame, owes-stage, owes-unready, tested-not}

-- whom a thread owes, it owes inside
inside_of : (o : Opt ℕ) (xs : List ℕ) (t : ℕ) → (o ≡ None → xs ≡ []) → mem t xs ≡ true → (k : ℕ) × (o ≡ Some k)
inside_of None xs t h there = absurd (false_true (sym (ap (mem t) (h refl)) ∙ there))
inside_of (Some k) xs t h there = (k, refl)

module _ {T H W : Type 0} (l : Layout) (traced : Bool) (w : W) (begin : W → ℕ → H) (holds : W → List T → List H → Type 0) where
  set_ready_at : (slots id t : ℕ) (me : Me (Slot T) (View T H W)) → t < most_threads → me.0.kind ≡ Member → (me.0.part.spin ≡ None → me.0.part.owed ≡ []) → ((o : ℕ) → me.0.part.spin ≡ Some o → o < 192) → mem t me.0.part.owed ≡ true
      → Allows (IsKept l traced w begin holds) slots id me (ready_at t) (λ _. 1) (set_ready_records (step slots (ready_at t) 1 0 none) me)
  set_ready_at slots id t me low kind settled inside there = let v = me.0 in let n = v.number in let p = v.part in let q : Part T H = record p { owed = without t p.owed } in
      let spins = inside_of p.spin p.owed t settled there in let o = spins.0 in let here = spins.1 in let below = inside o here in
      member_steps l traced w begin holds slots id (ready_at t) (λ _. 1) v me.1 (λ r s ds. (r ≡ 0) × (s ≡ q) × (ds ≡ me.1)) (set_ready_records (step slots (ready_at t) 1 0 none) me) kind
      (λ r s ds u. idle-spun p s v.child o here (ap (λ (z : Part T H). z.life) u.1))
      (λ r s ds world u k few is. let e : t ≡ k = thread-of t k low few (omega arith) in (u.0, (λ i. (with_part v (u.1 i), u.2 i)) ∙ (λ i. (with_part v (record p { owed = without (e i) p.owed }), me.1))))
      (λ words homes all c at small.
      let s = c.spins in
      let lines = c.lines in
      let mine = (s.spinning n p at o).0 here in
      let owes : mem t (c.owed o) ≡ true = ap (mem t) (sym mine.2) ∙ there in
      let inline : mem t (c.owed o ++ c.queue o) ≡ true = mem-append t (c.owed o) (c.queue o) owes in
      let zs : List ℕ = without t (c.owed o) in
      let owed' = put c.owed o zs in
      let words' : List ℕ = set words (ready_at t) 1 in
      let wide = c.sizes.words_wide in
      let is : owed' o ++ c.queue o ≡ without t (c.owed o ++ c.queue o) =
      (λ i. put-here c.owed o zs i ++ sym (without-absent t (c.queue o) (distinct-apart t (c.owed o) (c.queue o) (lines.distinct o) owes)) i) ∙ sym (without-append t (c.owed o) (c.queue o)) in
      let there' = at_below all t (lines.people o t inline) in
      let zero = ((lines.stands t there'.0 there'.1).lined o inline).1 in (
        q,
        keeps,
        tt,
        beside l traced w holds words words' homes homes all n p q at (length-set words (ready_at t) 1) refl (bits-stay words (ready_at t) 1 (λ k up z. omega arith)) (lives-stay words (ready_at t) 1 (λ k up z. omega arith)) (λ m. refl) record { version = refl; life = refl; seen = refl; mine = refl; places = refl; held = refl; share = refl; stints = refl; closing = λ m. refl } c.spinner c.writer c.queue owed' c
            (spins-change c.spinner c.queue c.owed words homes all n p q at s o (c.queue o) zs c.queue owed' words' below here refl mine.1 (ap (without t) mine.2) refl (λ k ne. refl) (put-here c.owed o zs) (λ k ne. put-else c.owed o k zs ne)
            (λ k lo. (spins-stay words (ready_at t) 1 (λ k up z. omega arith) (λ k up z. omega arith) k lo).0) ((spins-stay words (ready_at t) 1 (λ k up z. omega arith) (λ k up z. omega arith) o below).1 ∙ s.measured o below) (λ k lo ne. (spins-stay words (ready_at t) 1 (λ k up z. omega arith) (λ k up z. omega arith) k lo).1))
            (lines-ready (λ i. c.owed i ++ c.queue i) (λ i. owed' i ++ c.queue i) words words' all n p q at c.sizes.few t o (λ k lo ne. other words (ready_at t) (ready_at k) 1 (λ z. ne (thread-of k t lo low (omega arith)))) (get_or-set_same words (ready_at t) 1 0 (omega arith))
            is (λ k ne. ap (λ z. z ++ c.queue k) (put-else c.owed o k zs ne)) inline refl lines)
            (shows-frame all n p q at c.spinner c.queue c.owner c.spec words words' (shown-stay words (ready_at t) 1 (λ k up z. omega arith) (λ k up z. omega arith) (λ k up z. omega arith)) refl refl refl refl refl c.shows)
            (pens-frame all n p q at traced (length c.log) c.writer words words' (pen-stay words (ready_at t) 1 (λ z. omega arith) (λ z. omega arith)) refl c.pens)
            (alert-seen-stays all n p q at words (ready_at t) 1 c.sizes.few (λ k up z. omega arith) refl c.alert_seen)
            (owes-frame c.queue words words' all n p q at (λ k lo. other words (ready_at t) (bit_at k) 1 (λ z. omega arith)) refl refl refl c.owes)
            (begun-same words words' all n p q at (waits-stay words (ready_at t) 1 (λ j lo y. omega arith)) refl refl refl c.begun),
        (zero, refl, refl),
      ))

  -- the stand at a stage that the words show
  restages : (n i : ℕ) (p : Part T H) (s : Stand) (g : Stage) (words : List ℕ) (homes : List (Option (Slot T))) (all : List (Part T H)) → get_elem? all n ≡ some p → p.stand ≡ Some s → (c : Core l traced w holds words homes all) → (IsFound g → get_or words (ready_at n) 0 ≡ 1) → (IsUntested s.stage → get_or words (bit_at s.at) 0 ≡ 0 → IsUntested g) → (IsAsleep g → p.cleared ≡ [])
      → Core l traced w holds (set words i (get_or words i 0)) homes (set all n (record p { stand = staged g p.stand }))
  restages n i p s g words homes all at stood c found untested asleep = let q : Part T H = record p { stand = staged g p.stand } in
      still l traced w holds words homes all i n p q at record { version = refl; life = refl; seen = refl; mine = refl; places = refl; held = refl; share = refl; stints = refl; closing = λ m. refl } refl refl refl refl refl refl refl c
      (lines-stage (λ o. c.owed o ++ c.queue o) (λ o. c.owed o ++ c.queue o) words words all n p q at c.sizes.few s (record s { stage = g }) (λ t lo. refl) (λ o. refl) stood (ap (staged g) stood) refl found c.lines)
      (alert-seen-frame all n p q at words words c.sizes.few (λ k lo. refl) refl c.alert_seen)
      (owes-stage c.queue words words all n p q at s (record s { stage = g }) (λ k lo. refl) stood (ap (staged g) stood) refl untested asleep refl refl c.owes)
      (begun-frame words words all n p q at (λ k lo. refl) refl (λ h. counted-stands p q refl h refl (λ u d is on. (s, stood, (let z : Some (record s { stage = g }) ≡ Some u = sym (ap (staged g) stood) ∙ is in let y : record s { stage = g } ≡ u = cc in λ j. (y j).at)))) c.begun)

  -- the bit is read after a push
  pub test_again_keeps : (slots id i : ℕ) (me : Me (Slot T) (View T H W)) (s : Stand) (a b : Stage) → me.0.kind ≡ Member → me.0.part.stand ≡ Some s → i ≡ bit_at s.at → IsUntested a → (IsFound a → ⊥) → (IsFound b → ⊥) → (IsAsleep a → ⊥) → (IsAsleep b → ⊥)
      → Allows (IsKept l traced w begin holds) slots id me i (λ x. x) (λ r me'. (u : Stand) → me.0.part.stand ≡ Some u → i ≡ bit_at u.at → (r ≡ 0 → me' ≡ (with_part me.0 (record me.0.part { stand = staged a me.0.part.stand }), me.1)) × (r ≢ 0 → me' ≡ (with_part me.0 (record me.0.part { stand = staged b me.0.part.stand }), me.1)))
  test_again_keeps slots id i me s a b kind stood word untested na nb sa sb = let v = me.0 in let n = v.number in let p = v.part in
      member_steps l traced w begin holds slots id i (λ x. x) v me.1 (λ r q ds. ((r ≡ 0) × (q ≡ record p { stand = staged a p.stand }) × (ds ≡ me.1)) ⊎ ((r ≢ 0) × (q ≡ record p { stand = staged b p.stand }) × (ds ≡ me.1)))
      (λ r me'. (u : Stand) → p.stand ≡ Some u → i ≡ bit_at u.at → (r ≡ 0 → me' ≡ (with_part v (record p { stand = staged a p.stand }), me.1)) × (r ≢ 0 → me' ≡ (with_part v (record p { stand = staged b p.stand }), me.1))) kind
      (λ r q ds t. idle-stood p q v.child s stood (⊎_elim (λ (u : (r ≡ 0) × (q ≡ record p { stand = staged a p.stand }) × (ds ≡ me.1)). ap (λ (z : Part T H). z.life) u.1) (λ (u : (r ≢ 0) × (q ≡ record p { stand = staged b p.stand }) × (ds ≡ me.1)). ap (λ (z : Part T H). z.life) u.1) t))
      (λ r q ds world t. λ here stands word. ⊎_elim
      (λ (u : (r ≡ 0) × (q ≡ record p { stand = staged a p.stand }) × (ds ≡ me.1)). ((λ _. λ j. (with_part v (u.1 j), u.2 j)), λ miss. absurd (miss u.0)))
      (λ (u : (r ≢ 0) × (q ≡ record p { stand = staged b p.stand }) × (ds ≡ me.1)). ((λ hit. absurd (u.0 hit)), λ _. λ j. (with_part v (u.1 j), u.2 j))) t)
      (λ words homes all c at small. dite (ℕ_discrete (get_or words i 0) 0)
      (λ hit. (record p { stand = staged a p.stand }, keeps, tt, restages n i p s a words homes all at stood c (λ f. absurd (na f)) (λ _ _. untested) (λ f. absurd (sa f)), inl (hit, refl, refl)))
      (λ miss. (record p { stand = staged b p.stand }, keeps, tt, restages n i p s b words homes all at stood c (λ f. absurd (nb f)) (λ _ zero. absurd (miss ((λ j. get_or words (word j) 0) ∙ zero))) (λ f. absurd (sb f)), inr (miss, refl, refl))))

  read_ready_at : (slots id : ℕ) (me : Me (Slot T) (View T H W)) (s : Stand) → me.0.kind ≡ Member → me.0.part.stand ≡ Some s → HasTested s.stage → me.0.part.cleared ≡ [] → Allows (IsKept l traced w begin holds) slots id me (ready_at me.0.number) (λ x. x) (read_ready_records (step slots (ready_at me.0.number) 0 0 none) me)
  read_ready_at slots id me s kind stood tested looked = let v = me.0 in let n = v.number in let p = v.part in let i = ready_at n in
      member_steps l traced w begin holds slots id i (λ x. x) v me.1 (λ r q ds. ((r ≡ 0) × (q ≡ record p { stand = staged Asleep p.stand }) × (ds ≡ me.1)) ⊎ ((r ≡ 1) × (q ≡ record p { stand = staged Found p.stand }) × (ds ≡ me.1)))
      (read_ready_records (step slots i 0 0 none) me) kind
      (λ r q ds t. idle-stood p q v.child s stood (⊎_elim (λ (u : (r ≡ 0) × (q ≡ record p { stand = staged Asleep p.stand }) × (ds ≡ me.1)). ap (λ (z : Part T H). z.life) u.1) (λ (u : (r ≡ 1) × (q ≡ record p { stand = staged Found p.stand }) × (ds ≡ me.1)). ap (λ (z : Part T H). z.life) u.1) t))
      (λ r q ds world t. ⊎_elim
      (λ (u : (r ≡ 0) × (q ≡ record p { stand = staged Asleep p.stand }) × (ds ≡ me.1)). ((λ _. λ j. (with_part v (u.1 j), u.2 j)), λ miss. absurd (miss u.0)))
      (λ (u : (r ≡ 1) × (q ≡ record p { stand = staged Found p.stand }) × (ds ≡ me.1)). ((λ hit. absurd (let z = u.0 in omega arith)), λ _. (u.0, λ j. (with_part v (u.1 j), u.2 j)))) t)
      (λ words homes all c at small. ⊎_elim
      (λ (hit : get_or words i 0 ≡ 0). (record p { stand = staged Asleep p.stand }, keeps, tt, restages n i p s Asleep words homes all at stood c (λ f. absurd f) (λ u _. absurd (tested-not s.stage tested u)) (λ _. looked), inl (hit, refl, refl)))
      (λ (one : get_or words i 0 ≡ 1). (record p { stand = staged Found p.stand }, keeps, tt, restages n i p s Found words homes all at stood c (λ _. one) (λ u _. absurd (tested-not s.stage tested u)) (λ f. absurd f), inr (one, refl, refl)))
      (c.lines.stands n p at).flag)

  clear_ready_at : (slots id : ℕ) (me : Me (Slot T) (View T H W)) (s : Stand) → me.0.number < most_threads → me.0.kind ≡ Member → me.0.part.stand ≡ Some s → IsFound s.stage → Allows (IsKept l traced w begin holds) slots id me (ready_at me.0.number) (λ _. 0) (clear_ready_records (step slots (ready_at me.0.number) 0 0 none) me)
  clear_ready_at slots id me s low kind stood found = let v = me.0 in let n = v.number in let p = v.part in let i = ready_at n in let q : Part T H = record p { stand = None; turns = turned p.stand p.turns } in
      member_steps l traced w begin holds slots id i (λ _. 0) v me.1 (λ r x ds. (r ≡ 1) × (x ≡ q) × (ds ≡ me.1)) (clear_ready_records (step slots i 0 0 none) me) kind
      (λ r x ds t. idle-stood p x v.child s stood (ap (λ (z : Part T H). z.life) t.1))
      (λ r x ds world t. (t.0, λ j. (with_part v (t.1 j), t.2 j)))
      (λ words homes all c at small. let words' : List ℕ = set words i 0 in let one = (c.lines.stands n p at).found s stood found in let wide = c.sizes.words_wide in (
        q,
        keeps,
        tt,
        beside l traced w holds words words' homes homes all n p q at (length-set words i 0) refl (bits-stay words (ready_at n) 0 (λ k up z. omega arith)) (lives-stay words (ready_at n) 0 (λ k up z. omega arith)) (λ m. refl) record { version = refl; life = refl; seen = refl; mine = refl; places = refl; held = refl; share = refl; stints = refl; closing = λ m. refl } c.spinner c.writer c.queue c.owed c
            (spins-frame all n p q at c.spinner c.queue c.owed words words' homes homes (spins-stay words (ready_at n) 0 (λ k up z. omega arith) (λ k up z. omega arith)) (λ k lo. refl) refl refl refl c.spins)
            (lines-unready (λ k. c.owed k ++ c.queue k) (λ k. c.owed k ++ c.queue k) words words' all n p q at c.sizes.few (λ k lo ne. other words i (ready_at k) 0 (λ z. ne (thread-of k n lo low (omega arith)))) (λ k. refl) one (get_or-set_same words i 0 0 (omega arith)) refl c.lines)
            (shows-frame all n p q at c.spinner c.queue c.owner c.spec words words' (shown-stay words (ready_at n) 0 (λ k up z. omega arith) (λ k up z. omega arith) (λ k up z. omega arith)) refl refl refl refl refl c.shows)
            (pens-frame all n p q at traced (length c.log) c.writer words words' (pen-stay words (ready_at n) 0 (λ z. omega arith) (λ z. omega arith)) refl c.pens)
            (alert-seen-stays all n p q at words i 0 c.sizes.few (λ k up z. omega arith) refl c.alert_seen)
            (owes-unready c.queue words words' all n p q at s (λ k lo. other words i (bit_at k) 0 (λ z. omega arith)) stood refl refl refl c.owes)
            (begun-frame words words' all n p q at (waits-stay words i 0 (λ j lo y. omega arith)) refl (λ h. counted-stands p q refl h refl (λ u d is on. absurd (some_none q.stand u refl is))) c.begun),
        (one, refl, refl),
      ))

  -- the same at a word that is the ready word of the thread
  pub set_ready_keeps : (slots id i t : ℕ) (me : Me (Slot T) (View T H W)) → i ≡ ready_at t → t < most_threads → me.0.kind ≡ Member → (me.0.part.spin ≡ None → me.0.part.owed ≡ []) → ((o : ℕ) → me.0.part.spin ≡ Some o → o < 192) → mem t me.0.part.owed ≡ true
      → Allows (IsKept l traced w begin holds) slots id me i (λ _. 1) (set_ready_records (step slots i 1 0 none) me)
  set_ready_keeps slots id i t me e low kind settled inside there = subst (λ (i : ℕ). Allows (IsKept l traced w begin holds) slots id me i (λ _. 1) (set_ready_records (step slots i 1 0 none) me)) (sym e) (set_ready_at slots id t me low kind settled inside there)

  pub read_ready_keeps : (slots id i : ℕ) (me : Me (Slot T) (View T H W)) (s : Stand) → i ≡ ready_at me.0.number → me.0.kind ≡ Member → me.0.part.stand ≡ Some s → HasTested s.stage → me.0.part.cleared ≡ [] → Allows (IsKept l traced w begin holds) slots id me i (λ x. x) (read_ready_records (step slots i 0 0 none) me)
  read_ready_keeps slots id i me s e kind stood tested looked = subst (λ (i : ℕ). Allows (IsKept l traced w begin holds) slots id me i (λ x. x) (read_ready_records (step slots i 0 0 none) me)) (sym e) (read_ready_at slots id me s kind stood tested looked)

  pub clear_ready_keeps : (slots id i : ℕ) (me : Me (Slot T) (View T H W)) (s : Stand) → i ≡ ready_at me.0.number → me.0.number < most_threads → me.0.kind ≡ Member → me.0.part.stand ≡ Some s → IsFound s.stage → Allows (IsKept l traced w begin holds) slots id me i (λ _. 0) (clear_ready_records (step slots i 0 0 none) me)
  clear_ready_keeps slots id i me s e low kind stood found = subst (λ (i : ℕ). Allows (IsKept l traced w begin holds) slots id me i (λ _. 0) (clear_ready_records (step slots i 0 0 none) me)) (sym e) (clear_ready_at slots id me s low kind stood found)
