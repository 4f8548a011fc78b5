-- The steps on the queue of a gate keep the rule.
use Rattle.std.proofs.Common.{Bool, true, false, ◌≡◌, ◌≢◌, ℕ, ◌<◌, List, [], ◌∷◌, ◌++◌, length, get_or, set, refl, sym, ap, ◌∙◌, subst, arith, length-set, get_or-set_same, append_assoc, Some, None}
use mathlib.Core.Logic.{dite}
use mathlib.Core.Option.{Option, some, none}
use native.Mathlib.Decide.{ℕ_discrete}
use lib.ListN.{get_elem?}
use Rattle.larch_actions.specs.declared.event.Layout.{Layout}
use Rattle.larch_actions.specs.Actions.{put}
use Rattle.larch_actions.specs.Sets.{mem, without}
use Rattle.larch_actions.proofs.Sets.{mem-here}
use Rattle.atomic_table.specs.Table.{Me, Act, Valid, step, Allows, keeps, homes_after, carried_after}
use Rattle.nub_rule.specs.declared.rule.Slot.{Slot}
use Rattle.nub_rule.specs.declared.view.Part.{Part}
use Rattle.nub_rule.specs.declared.view.Stand.{Stand}
use Rattle.nub_rule.specs.declared.view.Stage.TheVariants.{Pushed}
use Rattle.nub_rule.specs.declared.view.View.{View}
use Rattle.nub_rule.specs.declared.view.Kind.TheVariants.{Member}
use Rattle.nub_rule.specs.Items.{Core, Lines, Shows, Distinct}
use Rattle.nub_rule.specs.Places.{length_at, spin_at, bit_at}
use Rattle.nub_rule.specs.Plays.{Becomes, with_part, read_length_records, push_gate_records, take_out_records, pop_gate_records, tail_of, front, less}
use Rattle.nub_rule.specs.Rule.{IsKept}
use Rattle.nub_rule.proofs.Each.{put-here, put-else, at_below}
use Rattle.nub_rule.proofs.Idle.{idle-looked, idle-spun}
use Rattle.nub_rule.proofs.Members.{member_steps}
use Rattle.nub_rule.specs.Parts.{stands_at}
use Rattle.nub_rule.specs.Owed.{WakeOwed}
use Rattle.nub_rule.specs.Begun.{IsCounted}
use Rattle.nub_rule.proofs.Frames.{lives-stay, SameShown, other, pens-frame, bits-stay, ready-stay, shown-stay, pen-stay, alert-seen-stays, alert-seen-frame}
use Rattle.nub_rule.proofs.Lines.{some_none, both_ways, not_true, mem-tail_of, distinct-apart, distinct-tail_of, without-append, without-absent, less-without, lines-push, lines-leave, lines-same}
use Rattle.nub_rule.proofs.Showing.{shows-gate}
use Rattle.nub_rule.proofs.Spinning.{only_here, spins-change}
use Rattle.nub_rule.proofs.Beginning.{waits-stay, begun-frame, begun-same, counted-same, counted-stands, same-stand}
use Rattle.nub_rule.proofs.Owing.{SameGates, owes-frame, owes-empty, owes-push, owes-leave, owes-pop}
use Rattle.nub_rule.proofs.Beside.{Alike, beside, still}

-- in distinct halves nobody is in both
pub absent-before : (t : ℕ) (xs ys : List ℕ) → Distinct (xs ++ ys) → mem t ys ≡ true → mem t xs ≡ false
absent-before t xs ys d there = not_true (mem t xs) (λ here. both_ways (mem t ys) there (distinct-apart t xs ys d here))

-- the first moves from the queue to those that are owed, and the line stays
pub popped-line : (xs ys : List ℕ) → (xs ++ front ys) ++ tail_of ys ≡ xs ++ ys
popped-line xs [] = append_assoc xs [] []
popped-line xs (y ∷ ys) = append_assoc xs (y ∷ []) ys

none_long : (xs : List ℕ) → length xs ≡ 0 → xs ≡ []
none_long [] e = refl
none_long (x ∷ xs) e = absurd (omega arith)

-- a step on a length word leaves the bits
pub length-gates : (o : ℕ) → o < 192 → (words : List ℕ) (x : ℕ) → SameGates words (set words (length_at o) x)
length-gates o low words x k lo = other words (length_at o) (bit_at k) x (λ z. omega arith)

-- the first of the queue of o stands there, and isn't after itself
first_stands : {T H : Type 0} (all : List (Part T H)) (owed queue words : List ℕ) (line : ℕ → List ℕ) (queue' : List ℕ) (o : ℕ) → Lines line words all → line o ≡ owed ++ queue → queue' ≡ tail_of queue
    → (x : ℕ) (xs : List ℕ) → queue ≡ x ∷ xs → (r : Part T H) × (get_elem? all x ≡ some r) × (stands_at r.stand o ≡ true) × (queue' ≡ xs) × (mem x xs ≡ false)
first_stands all owed queue words line queue' o lines is after x xs e =
    let here : mem x queue ≡ true = ap (mem x) e ∙ mem-here x x xs refl in
    let there : mem x (line o) ≡ true = ap (mem x) is ∙ mem-tail_of x owed queue here in
    let t = at_below all x (lines.people o x there) in
    let d : Distinct (x ∷ xs) = subst Distinct e (distinct-tail_of owed queue (subst Distinct is (lines.distinct o))) in
    (t.0, t.1, ((lines.stands x t.0 t.1).lined o there).0, after ∙ ap tail_of e, d.0)

module _ {T H W : Type 0} (l : Layout) (traced : Bool) (w : W) (begin : W → ℕ → H) (holds : W → List T → List H → Type 0) where
  -- the thread n, which has the spin word of o, changes the queue to ys and those that it owes to zs
  pub requeues_by : (n o : ℕ) (p q : Part T H) (ys zs : List ℕ) (words : List ℕ) (homes : List (Option (Slot T))) (all : List (Part T H)) → get_elem? all n ≡ some p → o < 192 → p.spin ≡ Some o → Alike l traced w holds p q → q.spin ≡ p.spin → q.queue ≡ ys → q.owed ≡ zs
      → q.pen ≡ p.pen → q.alerted ≡ p.alerted → (c : Core l traced w holds words homes all) → Lines (λ i. put c.owed o zs i ++ put c.queue o ys i) (set words (length_at o) (length ys)) (set all n q)
      → Shows (set words (length_at o) (length ys)) c.spinner (put c.queue o ys) c.owner c.spec (set all n q) → WakeOwed (put c.queue o ys) (set words (length_at o) (length ys)) (set all n q) → q.raised ≡ p.raised → (IsCounted p → IsCounted q) → Core l traced w holds (set words (length_at o) (length ys)) homes (set all n q)
  requeues_by n o p q ys zs words homes all at far here a es eq eo ep ea c lines shows owes er counted =
      let s = c.spins in let words' : List ℕ = set words (length_at o) (length ys) in let wide = c.sizes.words_wide in
      beside l traced w holds words words' homes homes all n p q at (length-set words (length_at o) (length ys)) refl (bits-stay words (length_at o) (length ys) (λ k up z. omega arith)) (lives-stay words (length_at o) (length ys) (λ k up z. omega arith)) (λ m. refl) a c.spinner c.writer (put c.queue o ys) (put c.owed o zs) c
      (spins-change c.spinner c.queue c.owed words homes all n p q at s o ys zs (put c.queue o ys) (put c.owed o zs) words' far here es eq eo (put-here c.queue o ys) (λ k ne. put-else c.queue o k ys ne) (put-here c.owed o zs) (λ k ne. put-else c.owed o k zs ne)
      (λ k lo. other words (length_at o) (spin_at k) (length ys) (λ z. omega arith)) (get_or-set_same words (length_at o) (length ys) 0 (omega arith)) (λ k lo ne. other words (length_at o) (length_at k) (length ys) (λ z. ne (omega arith))))
      lines
      shows
      (pens-frame all n p q at traced (length c.log) c.writer words words' (pen-stay words (length_at o) (length ys) (λ z. omega arith) (λ z. omega arith)) ep c.pens)
      (alert-seen-stays all n p q at words (length_at o) (length ys) c.sizes.few (λ k up z. omega arith) ea c.alert_seen)
      owes
      (begun-frame words words' all n p q at (waits-stay words (length_at o) (length ys) (λ j lo y. omega arith)) er counted c.begun)

  -- the words that the meaning reads stay
  pub length-shown : (o : ℕ) → o < 192 → (words : List ℕ) (x : ℕ) → SameShown words (set words (length_at o) x)
  length-shown o far words x = shown-stay words (length_at o) x (λ k up z. omega arith) (λ k up z. omega arith) (λ k up z. omega arith)

  -- the same at a gate
  pub requeues : (n o : ℕ) (p q : Part T H) (ys zs : List ℕ) (words : List ℕ) (homes : List (Option (Slot T))) (all : List (Part T H)) → get_elem? all n ≡ some p → o < 128 → p.spin ≡ Some o → Alike l traced w holds p q → q.spin ≡ p.spin → q.queue ≡ ys → q.owed ≡ zs → (p.left ≡ p.queue → q.left ≡ q.queue)
      → q.wait ≡ p.wait → q.pen ≡ p.pen → q.alerted ≡ p.alerted → (c : Core l traced w holds words homes all) → Lines (λ i. put c.owed o zs i ++ put c.queue o ys i) (set words (length_at o) (length ys)) (set all n q) → WakeOwed (put c.queue o ys) (set words (length_at o) (length ys)) (set all n q)
      → q.raised ≡ p.raised → (IsCounted p → IsCounted q) → Core l traced w holds (set words (length_at o) (length ys)) homes (set all n q)
  requeues n o p q ys zs words homes all at low here a es eq eo el ew ep ea c lines owes er counted = let far : o < 192 = omega arith in
      requeues_by n o p q ys zs words homes all at far here a es eq eo ep ea c lines
      (shows-gate words (set words (length_at o) (length ys)) (length-shown o far words (length ys)) c.spinner c.queue c.owner c.spec all n p q at a.life o ys low ew el (only_here c.spinner c.queue c.owed words homes all n p q at c.spins o here) c.shows)
      owes
      er
      counted

  -- a step that changes what the view remembers of gates alone
  notes : (n i : ℕ) (p : Part T H) (failed turns cleared looked : List ℕ) (words : List ℕ) (homes : List (Option (Slot T))) (all : List (Part T H)) → get_elem? all n ≡ some p → (c : Core l traced w holds words homes all) → WakeOwed c.queue words (set all n (record p { failed = failed; turns = turns; cleared = cleared; looked = looked }))
      → Core l traced w holds (set words i (get_or words i 0)) homes (set all n (record p { failed = failed; turns = turns; cleared = cleared; looked = looked }))
  notes n i p failed turns cleared looked words homes all at c owes = let q : Part T H = record p { failed = failed; turns = turns; cleared = cleared; looked = looked } in
      still l traced w holds words homes all i n p q at record { version = refl; life = refl; seen = refl; mine = refl; places = refl; held = refl; share = refl; stints = refl; closing = λ m. refl } refl refl refl refl refl refl refl c
      (lines-same (λ o. c.owed o ++ c.queue o) (λ o. c.owed o ++ c.queue o) words words all n p q at c.sizes.few (λ t lo. refl) (λ o. refl) refl c.lines)
      (alert-seen-frame all n p q at words words c.sizes.few (λ k lo. refl) refl c.alert_seen)
      owes
      (begun-same words words all n p q at (λ k lo. refl) refl refl refl c.begun)

  read_length_at : (slots id o : ℕ) (me : Me (Slot T) (View T H W)) → o < 192 → me.0.kind ≡ Member → Allows (IsKept l traced w begin holds) slots id me (length_at o) (λ x. x) (read_length_records (step slots (length_at o) 0 0 none) me)
  read_length_at slots id o me far kind = let v = me.0 in let n = v.number in let p = v.part in let i = length_at o in
      let Out : ℕ → Part T H → Type 0 = λ r q. (r ≡ 0 → q ≡ record p { cleared = without o p.cleared; looked = without o p.looked }) × (r ≢ 0 → mem o p.cleared ≡ true → q ≡ record p { looked = o ∷ p.looked }) × (r ≢ 0 → mem o p.cleared ≡ false → q ≡ p) in
      member_steps l traced w begin holds slots id i (λ x. x) v me.1 (λ r q ds. Out r q × (ds ≡ me.1)) (read_length_records (step slots i 0 0 none) me) kind
      (λ r q ds t. idle-looked p q v.child o r t.0)
      (λ r q ds world t k is. let e : o ≡ k = omega arith in subst (λ (k : ℕ). (r ≡ 0 → Becomes me (record p { cleared = without k p.cleared; looked = without k p.looked }) (with_part v q, ds)) × (r ≢ 0 → mem k p.cleared ≡ true → Becomes me (record p { looked = k ∷ p.looked }) (with_part v q, ds)) × (r ≢ 0 → mem k p.cleared ≡ false → (with_part v q, ds) ≡ me)) e
      ((λ hit j. (with_part v (t.0.0 hit j), t.1 j)), (λ miss is' j. (with_part v (t.0.1 miss is' j), t.1 j)), (λ miss out j. (with_part v (t.0.2 miss out j), t.1 j))))
      (λ words homes all c at small. dite (ℕ_discrete (get_or words i 0) 0)
      (λ hit. (record p { cleared = without o p.cleared; looked = without o p.looked }, keeps, tt, let q : Part T H = record p { cleared = without o p.cleared; looked = without o p.looked } in notes n i p p.failed p.turns (without o p.cleared) (without o p.looked) words homes all at c (owes-empty c.queue words words all n p q at o (λ k lo. refl) (none_long (c.queue o) (sym (c.spins.measured o far) ∙ hit)) refl refl refl c.owes), (((λ _. refl), (λ miss. absurd (miss hit)), (λ miss. absurd (miss hit))), refl)))
      (λ miss. elim (mem o p.cleared) as (λ b. b ≡ mem o p.cleared → (q : Part T H) × (a : Act (Slot T)) × Valid homes me.1 a × Core l traced w holds (set words i (get_or words i 0)) (homes_after homes me.1 a) (set all n q) × (Out (get_or words i 0) q × (carried_after me.1 a ≡ me.1)))
      [ true ↦ (λ is. (record p { looked = o ∷ p.looked }, keeps, tt, let q : Part T H = record p { looked = o ∷ p.looked } in notes n i p p.failed p.turns p.cleared (o ∷ p.looked) words homes all at c (owes-frame c.queue words words all n p q at (λ k lo. refl) refl refl refl c.owes), (((λ hit. absurd (miss hit)), (λ _ _. refl), (λ _ out. both_ways (mem o p.cleared) (sym is) out)), refl))) | false ↦ (λ is. (p, keeps, tt, notes n i p p.failed p.turns p.cleared p.looked words homes all at c (owes-frame c.queue words words all n p p at (λ k lo. refl) refl refl refl c.owes), (((λ hit. absurd (miss hit)), (λ _ is'. both_ways (mem o p.cleared) is' (sym is)), (λ _ _. refl)), refl))) ] refl))

  -- the same at a word that is this place
  pub read_length_keeps : (slots id o : ℕ) (me : Me (Slot T) (View T H W)) (i : ℕ) → i ≡ length_at o → o < 192 → me.0.kind ≡ Member → Allows (IsKept l traced w begin holds) slots id me i (λ x. x) (read_length_records (step slots i 0 0 none) me)
  read_length_keeps slots id o me i word far kind = subst (λ (i : ℕ). Allows (IsKept l traced w begin holds) slots id me i (λ x. x) (read_length_records (step slots i 0 0 none) me)) (sym word) (read_length_at slots id o me far kind)

  push_gate_at : (slots id o r : ℕ) (me : Me (Slot T) (View T H W)) → o < 128 → me.0.kind ≡ Member → me.0.part.spin ≡ Some o → me.0.part.stand ≡ None → r ≡ length (me.0.part.queue ++ me.0.number ∷ [])
      → Allows (IsKept l traced w begin holds) slots id me (length_at o) (λ _. r) (λ _. push_gate_records (step slots (length_at o) r 0 none) me r)
  push_gate_at slots id o r me low kind here out long = let v = me.0 in let n = v.number in let p = v.part in let ys : List ℕ = p.queue ++ n ∷ [] in let st : Stand = record { at = o; stage = Pushed } in
      let q : Part T H = record p { queue = ys; left = p.left ++ n ∷ []; stand = Some st } in
      subst (λ (z : ℕ). Allows (IsKept l traced w begin holds) slots id me (length_at o) (λ _. z) (λ _. push_gate_records (step slots (length_at o) z 0 none) me z)) (sym long)
      (member_steps l traced w begin holds slots id (length_at o) (λ _. length ys) v me.1 (λ x s ds. (s ≡ q) × (ds ≡ me.1)) (λ _. push_gate_records (step slots (length_at o) (length ys) 0 none) me (length ys)) kind
      (λ x s ds t. idle-spun p s v.child o here (ap (λ (z : Part T H). z.life) t.0))
      (λ x s ds world t k is. let e : o ≡ k = omega arith in (λ i. (with_part v (t.0 i), t.1 i)) ∙ (λ i. (with_part v (record p { queue = ys; left = p.left ++ n ∷ []; stand = Some record { at = e i; stage = Pushed } }), me.1)))
      (λ words homes all c at small.
      let mine = (c.spins.spinning n p at o).0 here in
      let words' : List ℕ = set words (length_at o) (length ys) in
      let far : o < 192 = omega arith in
      let line : ℕ → List ℕ = λ i. c.owed i ++ c.queue i in
      let line' : ℕ → List ℕ = λ i. put c.owed o (c.owed o) i ++ put c.queue o ys i in
      let is : line' o ≡ line o ++ n ∷ [] = (λ i. put-here c.owed o (c.owed o) i ++ (put-here c.queue o ys ∙ ap (λ z. z ++ n ∷ []) mine.1) i) ∙ sym (append_assoc (c.owed o) (c.queue o) (n ∷ [])) in (
        q,
        keeps,
        tt,
        requeues n o p q ys (c.owed o) words homes all at low here record { version = refl; life = refl; seen = refl; mine = refl; places = refl; held = refl; share = refl; stints = refl; closing = λ m. refl } refl refl mine.2 (λ e. ap (λ z. z ++ n ∷ []) e) refl refl refl c
            (lines-push line line' words words' all n p q at c.sizes.few o st (ready-stay words (length_at o) (length ys) (λ k up z. omega arith)) is (λ k ne i. put-else c.owed o k (c.owed o) ne i ++ put-else c.queue o k ys ne i) out refl refl (λ f. f) c.lines)
            (owes-push c.queue (put c.queue o ys) words words' all n p q at o st (length-gates o far words (length ys)) (put-here c.queue o ys ∙ ap (λ z. z ++ n ∷ []) mine.1) (λ k ne. put-else c.queue o k ys ne) out refl refl tt (λ f. f) refl refl c.owes)
            refl
            (λ h. counted-stands p q refl h refl (λ u d is on. let z : o ≡ u.at = (λ j. (same-stand q.stand st u refl is j).at) in absurd (omega arith))),
        (refl, refl),
      )))

  -- the same at a word that is this place
  pub push_gate_keeps : (slots id o r : ℕ) (me : Me (Slot T) (View T H W)) (i : ℕ) → i ≡ length_at o → o < 128 → me.0.kind ≡ Member → me.0.part.spin ≡ Some o → me.0.part.stand ≡ None → r ≡ length (me.0.part.queue ++ me.0.number ∷ [])
      → Allows (IsKept l traced w begin holds) slots id me i (λ _. r) (λ _. push_gate_records (step slots i r 0 none) me r)
  push_gate_keeps slots id o r me i word low kind here out long = subst (λ (i : ℕ). Allows (IsKept l traced w begin holds) slots id me i (λ _. r) (λ _. push_gate_records (step slots i r 0 none) me r)) (sym word) (push_gate_at slots id o r me low kind here out long)

  take_out_at : (slots id o r : ℕ) (me : Me (Slot T) (View T H W)) (s : Stand) → o < 128 → me.0.kind ≡ Member → me.0.part.spin ≡ Some o → mem me.0.number me.0.part.queue ≡ true → r ≡ length (less me.0.number me.0.part.queue)
      → Allows (IsKept l traced w begin holds) slots id me (length_at o) (λ _. r) (λ _. take_out_records (step slots (length_at o) r 0 none) me r)
  take_out_at slots id o r me s low kind here there long = let v = me.0 in let n = v.number in let p = v.part in let ys : List ℕ = less n p.queue in
      let q : Part T H = record p { queue = ys; left = less n p.left; stand = None; turns = o ∷ p.turns } in
      subst (λ (z : ℕ). Allows (IsKept l traced w begin holds) slots id me (length_at o) (λ _. z) (λ _. take_out_records (step slots (length_at o) z 0 none) me z)) (sym long)
      (member_steps l traced w begin holds slots id (length_at o) (λ _. length ys) v me.1 (λ x s ds. (s ≡ q) × (ds ≡ me.1)) (λ _. take_out_records (step slots (length_at o) (length ys) 0 none) me (length ys)) kind
      (λ x s ds t. idle-spun p s v.child o here (ap (λ (z : Part T H). z.life) t.0))
      (λ x s ds world t k is. let e : o ≡ k = omega arith in (λ i. (with_part v (t.0 i), t.1 i)) ∙ (λ i. (with_part v (record p { queue = ys; left = less n p.left; stand = None; turns = e i ∷ p.turns }), me.1)))
      (λ words homes all c at small.
      let mine = (c.spins.spinning n p at o).0 here in
      let words' : List ℕ = set words (length_at o) (length ys) in
      let far : o < 192 = omega arith in
      let line : ℕ → List ℕ = λ i. c.owed i ++ c.queue i in
      let line' : ℕ → List ℕ = λ i. put c.owed o (c.owed o) i ++ put c.queue o ys i in
      let d = c.lines.distinct o in
      let queued : mem n (c.queue o) ≡ true = ap (mem n) (sym mine.1) ∙ there in
      let gone : ys ≡ without n (c.queue o) = ap (less n) mine.1 ∙ less-without n (c.queue o) (distinct-tail_of (c.owed o) (c.queue o) d) in
      let is : line' o ≡ without n (line o) = (λ i. (put-here c.owed o (c.owed o) ∙ sym (without-absent n (c.owed o) (absent-before n (c.owed o) (c.queue o) d queued))) i ++ (put-here c.queue o ys ∙ gone) i) ∙ sym (without-append n (c.owed o) (c.queue o)) in (
        q,
        keeps,
        tt,
        requeues n o p q ys (c.owed o) words homes all at low here record { version = refl; life = refl; seen = refl; mine = refl; places = refl; held = refl; share = refl; stints = refl; closing = λ m. refl } refl refl mine.2 (λ e. ap (less n) e) refl refl refl c
            (lines-leave line line' words words' all n p q at c.sizes.few o (ready-stay words (length_at o) (length ys) (λ k up z. omega arith)) is (λ k ne i. put-else c.owed o k (c.owed o) ne i ++ put-else c.queue o k ys ne i) (mem-tail_of n (c.owed o) (c.queue o) queued) refl c.lines)
            (owes-leave c.queue (put c.queue o ys) words words' all n p q at o (length-gates o far words (length ys)) (λ k ne. put-else c.queue o k ys ne) ((c.lines.stands n p at).lined o (mem-tail_of n (c.owed o) (c.queue o) queued)).0 refl refl refl c.owes)
            refl
            (λ h. counted-stands p q refl h refl (λ u d is on. absurd (some_none q.stand u refl is))),
        (refl, refl),
      )))

  -- the same at a word that is this place
  pub take_out_keeps : (slots id o r : ℕ) (me : Me (Slot T) (View T H W)) (s : Stand) (i : ℕ) → i ≡ length_at o → o < 128 → me.0.kind ≡ Member → me.0.part.spin ≡ Some o → mem me.0.number me.0.part.queue ≡ true → r ≡ length (less me.0.number me.0.part.queue)
      → Allows (IsKept l traced w begin holds) slots id me i (λ _. r) (λ _. take_out_records (step slots i r 0 none) me r)
  take_out_keeps slots id o r me s i word low kind here there long = subst (λ (i : ℕ). Allows (IsKept l traced w begin holds) slots id me i (λ _. r) (λ _. take_out_records (step slots i r 0 none) me r)) (sym word) (take_out_at slots id o r me s low kind here there long)

  pop_gate_at : (slots id o r : ℕ) (me : Me (Slot T) (View T H W)) → o < 128 → me.0.kind ≡ Member → me.0.part.spin ≡ Some o → r ≡ length (tail_of me.0.part.queue)
      → Allows (IsKept l traced w begin holds) slots id me (length_at o) (λ _. r) (λ _. pop_gate_records (step slots (length_at o) r 0 none) me r)
  pop_gate_at slots id o r me low kind here long = let v = me.0 in let n = v.number in let p = v.part in let ys : List ℕ = tail_of p.queue in
      let q : Part T H = record p { queue = ys; owed = p.owed ++ front p.queue; left = tail_of p.left; cleared = without o p.cleared; looked = without o p.looked } in
      subst (λ (z : ℕ). Allows (IsKept l traced w begin holds) slots id me (length_at o) (λ _. z) (λ _. pop_gate_records (step slots (length_at o) z 0 none) me z)) (sym long)
      (member_steps l traced w begin holds slots id (length_at o) (λ _. length ys) v me.1 (λ x s ds. (s ≡ q) × (ds ≡ me.1)) (λ _. pop_gate_records (step slots (length_at o) (length ys) 0 none) me (length ys)) kind
      (λ x s ds t. idle-spun p s v.child o here (ap (λ (z : Part T H). z.life) t.0))
      (λ x s ds world t k is. let e : o ≡ k = omega arith in (λ i. (with_part v (t.0 i), t.1 i)) ∙ (λ i. (with_part v (record p { queue = ys; owed = p.owed ++ front p.queue; left = tail_of p.left; cleared = without (e i) p.cleared; looked = without (e i) p.looked }), me.1)))
      (λ words homes all c at small.
      let mine = (c.spins.spinning n p at o).0 here in
      let words' : List ℕ = set words (length_at o) (length ys) in
      let far : o < 192 = omega arith in
      let zs : List ℕ = p.owed ++ front p.queue in
      let line : ℕ → List ℕ = λ i. c.owed i ++ c.queue i in
      let line' : ℕ → List ℕ = λ i. put c.owed o zs i ++ put c.queue o ys i in
      let is : line' o ≡ line o = (λ i. put-here c.owed o zs i ++ put-here c.queue o ys i) ∙ (popped-line p.owed p.queue ∙ λ i. mine.2 i ++ mine.1 i) in
      let same : (k : ℕ) → line' k ≡ line k = λ k. dite (ℕ_discrete k o) (λ e. (λ i. line' (e i)) ∙ (is ∙ λ i. line (sym e i))) (λ ne i. put-else c.owed o k zs ne i ++ put-else c.queue o k ys ne i) in (
        q,
        keeps,
        tt,
        requeues n o p q ys zs words homes all at low here record { version = refl; life = refl; seen = refl; mine = refl; places = refl; held = refl; share = refl; stints = refl; closing = λ m. refl } refl refl refl (λ e. ap tail_of e) refl refl refl c
            (lines-same line line' words words' all n p q at c.sizes.few (ready-stay words (length_at o) (length ys) (λ k up z. omega arith)) same refl c.lines)
            (owes-pop c.queue (put c.queue o ys) words words' all n p q at o (length-gates o far words (length ys))
            (first_stands all (c.owed o) (c.queue o) words line (put c.queue o ys o) o c.lines refl (put-here c.queue o ys ∙ ap tail_of mine.1)) (λ e. put-here c.queue o ys ∙ (ap tail_of mine.1 ∙ ap tail_of e)) (λ k ne. put-else c.queue o k ys ne) refl refl refl c.owes)
            refl
            (λ h. counted-same p q refl h refl refl),
        (refl, refl),
      )))

  -- the same at a word that is this place
  pub pop_gate_keeps : (slots id o r : ℕ) (me : Me (Slot T) (View T H W)) (i : ℕ) → i ≡ length_at o → o < 128 → me.0.kind ≡ Member → me.0.part.spin ≡ Some o → r ≡ length (tail_of me.0.part.queue)
      → Allows (IsKept l traced w begin holds) slots id me i (λ _. r) (λ _. pop_gate_records (step slots i r 0 none) me r)
  pop_gate_keeps slots id o r me i word low kind here long = subst (λ (i : ℕ). Allows (IsKept l traced w begin holds) slots id me i (λ _. r) (λ _. pop_gate_records (step slots i r 0 none) me r)) (sym word) (pop_gate_at slots id o r me low kind here long)
