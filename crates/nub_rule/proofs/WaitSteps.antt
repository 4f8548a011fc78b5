-- The steps on a mutex's bit in a wait keep the rule: its clearing, and taking it for no event. Nobody holds the mutex since the wait began.
use Rattle.std.proofs.Common.{Bool, true, cond, eqb, ◌≡◌, ◌≢◌, ℕ, ◌<◌, ◌⊎◌, List, [], ◌∷◌, ◌++◌, length, get_or, set, refl, sym, ap, ◌∙◌, subst, inl, inr, ⊎_elim, arith, length-set, Some, None, false, eq-eqb, ne_eqb}
use prog.Atomic.{either}
use Rattle.std.specs.Prelude.{Option as Opt}
use mathlib.Core.Logic.{dite}
use mathlib.Core.Option.{Option, some, none, some-injective, some-ne-none}
use native.Mathlib.Decide.{ℕ_discrete}
use lib.ListN.{get_elem?}
use Rattle.larch_actions.specs.declared.event.Layout.{Layout}
use Rattle.larch_actions.specs.Actions.{Spec, put}
use Rattle.larch_actions.specs.Sets.{without}
use Rattle.atomic_table.specs.Table.{Me, step, Allows, keeps, takes, gives, put_back, rest}
use Rattle.atomic_table.proofs.Lists.{set_else, set_here}
use Rattle.nub_rule.specs.declared.rule.Slot.{Slot}
use Rattle.nub_rule.specs.declared.rule.Slot.TheVariants.{Value}
use Rattle.nub_rule.specs.declared.view.Part.{Part}
use Rattle.nub_rule.specs.declared.view.Stint.{Stint}
use Rattle.nub_rule.specs.declared.view.Wait.{Wait}
use Rattle.nub_rule.specs.declared.view.WaitBit.{WaitBit}
use Rattle.nub_rule.specs.declared.view.WaitBit.TheVariants.{Closing, Open, Quiet}
use Rattle.nub_rule.specs.declared.view.View.{View}
use Rattle.nub_rule.specs.declared.view.Kind.TheVariants.{Member}
use Rattle.nub_rule.specs.Items.{Core, Holders, Shows}
use Rattle.nub_rule.specs.Parts.{Got, Lacks, waits_on, closing_on, is_closing, is_open, open_on, pending_of}
use Rattle.nub_rule.specs.Places.{bit_at, value_at, queue_at}
use Rattle.nub_rule.specs.Plays.{Becomes, Entered, MayFree, stint, WonQuietly, with_part, opened, quieted, clear_bit_in_wait_records, take_bit_quiet_records}
use Rattle.nub_rule.specs.Rule.{FitsAs, IsKept}
use Rattle.nub_rule.proofs.Each.{at_within, at_below, each-set, put-at, put-else}
use Rattle.nub_rule.proofs.Idle.{idle-waits}
use Rattle.nub_rule.proofs.Members.{Steps, member_steps}
use Rattle.nub_rule.proofs.Frames.{lives-frame, lives-stay, lived-frame, SameShown, other, sizes-frame, recorded-frame, spins-frame, lines-frame, semaphores-frame, alerts-frame, pens-frame, ready-stay, spins-stay, shown-stay, pen-stay, alert-seen-stays}
use Rattle.nub_rule.proofs.SpinSteps.{nobody-by, one-by}
use Rattle.nub_rule.proofs.Owing.{owes-clear}
use Rattle.nub_rule.proofs.Beginning.{waits-stay, begun-frame, counted-rebit}
use Rattle.nub_rule.proofs.Stinting.{closing-else, given, stinted-gives, with_stint}
use Rattle.nub_rule.proofs.Owning.{lacking, owned-give}
use Rattle.nub_rule.proofs.Showing.{pendings-put}
use Rattle.nub_rule.proofs.Conditioning.{conditions-wait}
use Rattle.nub_rule.proofs.BitSteps.{loser, bit_taken, bit_missed, value_same}

same-either : (b : Bool) → cond b false false ≡ false
same-either true = refl
same-either false = refl

module _ {T H : Type 0} (words words' : List ℕ) (spinner : ℕ → Option ℕ) (queue : ℕ → List ℕ) (owner : ℕ → Option ℕ) (spec : Spec) (all : List (Part T H)) (n : ℕ) (p q : Part T H) (at : get_elem? all n ≡ some p) where
  -- the bit of the mutex m, on which the thread n waits and which nobody holds, is nobody's or that thread's now
  holders-rebit : (holder : ℕ → Option ℕ) (m : ℕ) (o : Option ℕ) → ((j : ℕ) → o ≡ some j → j ≡ n) → holder m ≡ none → waits_on p.wait m ≡ true → ((k : ℕ) → waits_on q.wait k ≡ waits_on p.wait k) → ((k : ℕ) → put owner m o k ≡ some n → open_on q.wait k ≡ false)
      → Holders owner holder all → Holders (put owner m o) holder (set all n q)
  holders-rebit holder m o only nobody waits same shut h = let owner' = put owner m o in record {
    free = λ k is. dite (ℕ_discrete k m) (λ e. ap holder e ∙ nobody) (λ ne. h.free k (sym (put-else owner m k o ne) ∙ is));
    holds = each-set (λ j r. (k : ℕ) → owner k ≡ some j → holder k ≡ cond (waits_on r.wait k) none (some j)) (λ j r. (k : ℕ) → owner' k ≡ some j → holder k ≡ cond (waits_on r.wait k) none (some j)) all n q
        (λ k is. dite (ℕ_discrete k m)
        (λ e. ap holder e ∙ (nobody ∙ ap (λ b. cond b none (some n)) (sym (same k ∙ (ap (waits_on p.wait) e ∙ waits)))))
        (λ ne. h.holds n p at k (sym (put-else owner m k o ne) ∙ is) ∙ ap (λ b. cond b none (some n)) (sym (same k))))
        (λ j x ne at' u k is. dite (ℕ_discrete k m) (λ e. absurd (ne (only j (sym (put-at owner m o k e) ∙ is)))) (λ other. u k (sym (put-else owner m k o other) ∙ is))) h.holds;
    shut = each-set (λ j r. (k : ℕ) → owner k ≡ some j → open_on r.wait k ≡ false) (λ j r. (k : ℕ) → owner' k ≡ some j → open_on r.wait k ≡ false) all n q shut
        (λ j x ne at' u k is. dite (ℕ_discrete k m) (λ e. absurd (ne (only j (sym (put-at owner m o k e) ∙ is)))) (λ other. u k (sym (put-else owner m k o other) ∙ is))) h.shut;
  }

  -- and of its wait the thread has changed the stage of that bit alone
  shows-rebit : (m : ℕ) (x : Wait) (b : WaitBit) (o : Option ℕ) → ((j : ℕ) → o ≡ some j → j ≡ n) → (o ≡ some n → is_open b ≡ false) → spec.holder m ≡ none → SameShown words words' → q.life ≡ p.life → p.wait ≡ Some x → q.wait ≡ Some (record x { bit = b }) → x.mutex.0 ≡ m → q.left ≡ p.left → q.queue ≡ p.queue → q.count ≡ p.count
      → Shows words spinner queue owner spec all → Shows words' spinner queue (put owner m o) spec (set all n q)
  shows-rebit m x b o only taken nobody ws ei before now on el eq ec s = record {
    holders = holders-rebit spec.holder m o only nobody (ap (λ z. waits_on z m) before ∙ eq-eqb x.mutex.0 m on) (λ k. ap (λ z. waits_on z k) now ∙ sym (ap (λ z. waits_on z k) before))
        (λ k is. ap (λ z. open_on z k) now ∙ dite (ℕ_discrete k m)
        (λ e. ap (λ z. cond z (eqb x.mutex.0 k) false) (taken (sym (put-at owner m o k e) ∙ is)))
        (λ ne. ap (λ z. cond (is_open b) z false) (ne_eqb x.mutex.0 k (λ e. ne (sym e ∙ on))) ∙ same-either (is_open b))) s.holders;
    pendings = pendings-put words words' spinner queue owner all n p q at spec.pending spec.pending (s.pendings.pends n p at ∙ (ap pending_of before ∙ sym (ap pending_of now))) (λ j ne. refl) s.pendings;
    semaphores = semaphores-frame spec.avail words words' ws.sems s.semaphores;
    alerts = alerts-frame spec.alerts words words' ws.alerts s.alerts;
    conditions = conditions-wait words words' spinner queue spec.members all n p q at s.conditions x (record x { bit = b }) ws.counts before now refl refl el eq ec;
    lives = lived-frame all n p q at spec.life ei s.lives;
  }

module _ {T H W : Type 0} (l : Layout) (traced : Bool) (w : W) (begin : W → ℕ → H) (holds : W → List T → List H → Type 0) where
  -- what the thread n leaves that closes the mutex m in a wait
  abbrev Closes : (H → H) → ℕ → ℕ → T → T → Part T H → List (ℕ × Slot T) → Part T H → List (ℕ × Slot T) → Type 0
  Closes next m n x y p cs q ds = (s : H) × (p.share ≡ Some s) × (q ≡ record p { held = set p.held m None; share = Some (next s); stints = with_stint p n m x y s (next s); wait = opened p.wait; cleared = m ∷ p.cleared }) × (ds ≡ rest cs)

  module _ (allows : W → ℕ → ℕ → T → T → H → H → Type 0)
      (law : (values : List T) (shares : List H) → holds w values shares → (m : ℕ) (x y : T) → get_elem? values m ≡ some x → (t : ℕ) (s r : H) → get_elem? shares t ≡ some s → allows w m t x y s r → holds w (set values m y) (set shares t r)) where
    closes_at : (n m : ℕ) (p : Part T H) (cs : List (ℕ × Slot T)) (x y : T) (b : Wait) (next : H → H) → m < l.mutexes → p.wait ≡ Some b → b.mutex.0 ≡ m → b.bit ≡ Closing → p.stand ≡ None → Got p m x → cs ≡ (value_at m, Value (Some y)) ∷ rest cs → ((s : H) → p.share ≡ Some s → allows w m n x y s (next s))
        → Steps l traced w begin holds n (bit_at m) (λ _. 0) p cs (λ r q ds. (r ≡ 1) × Closes next m n x y p cs q ds)
    closes_at n m p cs x y b next inside before on shut apart got first allowed words homes all c at small =
        let lawful = c.sizes.lawful in let ws = c.sizes.words_wide in let hs = c.sizes.homes_wide in
        let far : m < 192 = omega arith in
        let o = c.owned in
        let mine = o.shared n p at in
        let s : H = mine.0 in
        let u : H = next s in
        let own : c.owner m ≡ some n = (o.standing n p at m).0 (x, got) in
        let here : get_elem? c.values m ≡ some x = o.current n p at m x got in
        let wide : length p.held ≡ 64 = c.sizes.parts_wide n p at in
        let q : Part T H = record p { held = set p.held m None; share = Some u; stints = with_stint p n m x y s u; wait = opened p.wait; cleared = m ∷ p.cleared } in
        let words' : List ℕ = set words (bit_at m) 0 in
        let line : Slot T = Value (Some y) in
        let homes' : List (Option (Slot T)) = set homes (value_at m) (some line) in (
          q,
          gives,
          tt,
          subst (λ (z : List (Option (Slot T))). Core l traced w holds words' z (set all n q)) (ap (put_back homes) (sym first)) record {
            log = c.log;
            spec = c.spec;
            owner = put c.owner m none;
            spinner = c.spinner;
            writer = c.writer;
            queue = c.queue;
            owed = c.owed;
            values = set c.values m y;
            shares = set c.shares n u;
            sizes = sizes-frame all n p q at l words words' homes homes' (length-set words (bit_at m) 0) (length-set homes (value_at m) (some line)) refl (length-set p.held m None) c.sizes;
            run = c.run;
            recorded = recorded-frame all n p q at l c.log refl refl refl c.recorded;
            owned = owned-give l (holds w) c.owner c.values c.shares words homes all n m p q at o wide (omega arith) inside lawful y u own (omega arith) (at_within c.values m x here) (at_within c.shares n s mine.2) (law c.values c.shares o.kept m x y here n s u mine.2 (allowed s mine.1)) refl refl;
            spins = spins-frame all n p q at c.spinner c.queue c.owed words words' homes homes' (spins-stay words (bit_at m) 0 (λ k up z. omega arith) (λ k up z. omega arith)) (λ k lo. set_else homes (value_at m) (queue_at k) (some line) (λ z. omega arith)) refl refl refl c.spins;
            lines = lines-frame all n p q at (λ k. c.owed k ++ c.queue k) words words' c.sizes.few (ready-stay words (bit_at m) 0 (λ k up z. omega arith)) refl c.lines;
            shows = shows-rebit words words' c.spinner c.queue c.owner c.spec all n p q at m b Open none (λ j is. absurd (some-ne-none j (sym is))) (λ is. absurd (some-ne-none n (sym is))) (c.shows.holders.holds n p at m own ∙ ap (λ z. cond z none (some n)) (ap (λ z. waits_on z m) before ∙ eq-eqb b.mutex.0 m on)) (shown-stay words (bit_at m) 0 (λ k up z. omega arith) (λ k up z. omega arith) (λ k up z. omega arith)) refl before (ap opened before) on refl refl refl c.shows;
            pens = pens-frame all n p q at traced (length c.log) c.writer words words' (pen-stay words (bit_at m) 0 (λ z. omega arith) (λ z. omega arith)) refl c.pens;
            alert_seen = alert-seen-stays all n p q at words (bit_at m) 0 c.sizes.few (λ k up z. omega arith) refl c.alert_seen;
            lives = lives-frame all n p q at words words' c.sizes.few (lives-stay words (bit_at m) 0 (λ k up z. omega arith)) refl c.lives;
            owes = owes-clear c.queue words words' all n p q at m (λ k lo ne. other words (bit_at m) (bit_at k) 0 (λ z. ne (omega arith))) apart refl refl refl c.owes;
            begun = begun-frame words words' all n p q at (waits-stay words (bit_at m) 0 (λ j lo y. omega arith)) refl (λ h. counted-rebit p q refl h b Open before (ap opened before) refl) c.begun;
            stinted = stinted-gives all n p q at m c.log x y s u c.stinted own here mine.2 (law c.values c.shares o.kept m x y here n s u mine.2 (allowed s mine.1)) refl
                (given all n p q at m true c.stinted own (ap (λ z. closing_on z m) before ∙ (ap (λ g. cond (is_closing g) (eqb b.mutex.0 m) false) shut ∙ eq-eqb b.mutex.0 m on))) (λ j ne. refl) (λ j ne. ap (λ z. closing_on (opened z) j) before ∙ sym (closing-else p.wait b m before on j ne));
          },
          (one-by (get_or words (bit_at m) 0) n (c.owner m) (o.bits m inside) own, (s, mine.1, refl, refl)),
        )

    pub clear_bit_in_wait_keeps : (after : W → ℕ → ℕ → T → T → H → H) (slots id m : ℕ) (b : Wait) (me : Me (Slot T) (View T H W)) (i : ℕ) → i ≡ bit_at m → m < l.mutexes → me.0.kind ≡ Member → me.0.part.wait ≡ Some b → b.mutex.0 ≡ m → b.bit ≡ Closing → me.0.part.stand ≡ None → MayFree allows after m me
        → Allows (IsKept l traced w begin holds) slots id me i (λ _. 0) (clear_bit_in_wait_records after (step slots i 0 0 none) me)
    clear_bit_in_wait_keeps after slots id m b me i word inside kind before on shut apart may = subst (λ (i : ℕ). Allows (IsKept l traced w begin holds) slots id me i (λ _. 0) (clear_bit_in_wait_records after (step slots i 0 0 none) me)) (sym word) here
      where
        here : Allows (IsKept l traced w begin holds) slots id me (bit_at m) (λ _. 0) (clear_bit_in_wait_records after (step slots (bit_at m) 0 0 none) me)
        here st r wide at small = let v = me.0 in let n = v.number in let p = v.part in let x : T = may.0 in let y : T = may.1 in
            let world : v.world ≡ Some w = (subst (FitsAs l.version l.threads r.given w begin r.all r.seat_of id v) kind (r.fits id v at)).world in
            let next = λ (s : H). after w m n x y s in
            member_steps l traced w begin holds slots id (bit_at m) (λ _. 0) v me.1 (λ r q ds. (r ≡ 1) × Closes next m n x y p me.1 q ds) (clear_bit_in_wait_records after (step slots (bit_at m) 0 0 none) me) kind
            (λ r q ds t. idle-waits p q v.child b before (ap (λ (z : Part T H). z.life) t.1.2))
            (λ r q ds world' t' k is. let t = t'.1 in let same : m ≡ k = omega arith in
            subst (λ (k : ℕ). (r ≡ 1) × (u : Opt H) × (ss : List (Stint T H)) × ((let z : Me (Slot T) (View T H W) = (with_part v q, ds) in z) ≡ (with_part v (record p { held = set p.held k None; share = u; stints = ss; wait = opened p.wait; cleared = k ∷ p.cleared }), rest me.1))
            × Entered after k me u ss) same (
              t'.0,
              Some (next t.0),
              with_stint p n m x y t.0 (next t.0),
              (λ i. (with_part v (t.2 i), t.3 i)),
              λ w' s' x' y' is' share' got' first'.
                  let a : Some x ≡ Some x' = some-injective (Some x) (Some x') (sym may.2 ∙ got') in
                  let b : x ≡ x' = cc in
                  let c : Some t.0 ≡ Some s' = sym t.1 ∙ share' in
                  let d : t.0 ≡ s' = cc in
                  let g : Some w ≡ Some w' = sym world ∙ is' in
                  let h : w ≡ w' = cc in
                  let e = value_same (value_at m) y y' (rest me.1) (sym may.3 ∙ first') in
                  ((λ j. Some (after (h j) m n (b j) (e j) (d j))), λ j. p.stints ++ stint after (h j) m n (b j) (e j) (d j) ∷ []),
            ))
            (closes_at n m p me.1 x y b next inside before on shut apart may.2 may.3 (λ s is. may.4 w s world is)) st r wide at small

  -- what the thread n leaves that takes the mutex m in a wait, for no event
  abbrev TakesQuietly : (W → ℕ → T → ℕ → H → Type 0) → ℕ → ℕ → Part T H → List (ℕ × Slot T) → Part T H → List (ℕ × Slot T) → Type 0
  TakesQuietly fits m n p cs q ds = (x : T) × ((s : H) → p.share ≡ Some s → fits w m x n s) × Lacks p m × (get_elem? (set p.held m (Some x)) m ≡ some (Some x))
      × (q ≡ record p { held = set p.held m (Some x); wait = quieted p.wait; failed = without m p.failed; turns = without m p.turns }) × (ds ≡ (value_at m, Value (Some x)) ∷ cs)

  module _ (fits : W → ℕ → T → ℕ → H → Type 0)
      (law : (values : List T) (shares : List H) → holds w values shares → (m : ℕ) (x : T) → get_elem? values m ≡ some x → (t : ℕ) (s : H) → get_elem? shares t ≡ some s → fits w m x t s) where
    takes_quietly : (n m : ℕ) (p : Part T H) (cs : List (ℕ × Slot T)) (b : Wait) → m < l.mutexes → p.wait ≡ Some b → b.mutex.0 ≡ m
        → Steps l traced w begin holds n (bit_at m) (λ x. either (eqb x 0) 1 x) p cs (λ r q ds. ((r ≡ 0) × TakesQuietly fits m n p cs q ds) ⊎ ((r ≢ 0) × (q ≡ loser p m) × (ds ≡ cs)))
    takes_quietly n m p cs b inside before on words homes all c at small = let r : ℕ = get_or words (bit_at m) 0 in let lawful = c.sizes.lawful in
        let far : m < 192 = omega arith in dite (ℕ_discrete r 0)
        (λ hit.
        let o = c.owned in
        let free = nobody-by r (c.owner m) (o.bits m inside) hit in
        let found = at_below c.values m (let z = o.values_wide in omega arith) in
        let x = found.0 in
        let wide : length p.held ≡ 64 = c.sizes.parts_wide n p at in
        let q : Part T H = record p { held = set p.held m (Some x); wait = quieted p.wait; failed = without m p.failed; turns = without m p.turns } in
        let aside : (j : ℕ) → j ≢ m → closing_on p.wait j ≡ false = closing-else p.wait b m before on in
        let words' : List ℕ = set words (bit_at m) 1 in (
          q,
          takes (value_at m) (Value (Some x)),
          o.at_home m inside x found.1 free,
          bit_taken l traced w begin holds n m p q x words homes all at inside c hit found.1 record { version = refl; life = refl; held = refl; share = refl; spin = refl; queue = refl; owed = refl; stand = refl; alerted = refl; cleared = refl; turns = refl; raised = refl; counted = λ h. counted-rebit p q refl h b Quiet before (ap quieted before) refl; stints = refl; after = λ j. ap (λ z. closing_on (quieted z) j) before; before = aside } c.log c.spec (λ j. refl) c.run
              (recorded-frame all n p q at l c.log refl refl refl c.recorded)
              (shows-rebit words words' c.spinner c.queue c.owner c.spec all n p q at m b Quiet (some n) (λ j is. some-injective j n (sym is)) (λ _. refl) (c.shows.holders.free m free) (shown-stay words (bit_at m) 1 (λ k up z. omega arith) (λ k up z. omega arith) (λ k up z. omega arith)) refl before (ap quieted before) on refl refl refl c.shows)
              (pens-frame all n p q at traced (length c.log) c.writer words words' (pen-stay words (bit_at m) 1 (λ z. omega arith) (λ z. omega arith)) refl c.pens),
          inl (
            hit,
            (
              x,
              (λ s is. let u = o.shared n p at in let f : Some u.0 ≡ Some s = sym u.1 ∙ is in let g : u.0 ≡ s = cc in law c.values c.shares o.kept m x found.1 n s (u.2 ∙ ap some g)),
              lacking p m (omega arith) (λ has. some-ne-none n (sym ((o.standing n p at m).0 has) ∙ free)),
              set_here p.held m (Some x) (omega arith),
              refl,
              refl,
            ),
          ),
        ))
        (λ miss. (loser p m, keeps, tt, bit_missed l traced w begin holds n m p words homes all at far c miss, inr (miss, refl, refl)))

    pub take_bit_quiet_keeps : (slots id m : ℕ) (b : Wait) (me : Me (Slot T) (View T H W)) (i : ℕ) → i ≡ bit_at m → m < l.mutexes → me.0.kind ≡ Member → me.0.part.wait ≡ Some b → b.mutex.0 ≡ m
        → Allows (IsKept l traced w begin holds) slots id me i (λ x. either (eqb x 0) 1 x) (take_bit_quiet_records fits (step slots i 0 1 none) me)
    take_bit_quiet_keeps slots id m b me i word inside kind before on = subst (λ (i : ℕ). Allows (IsKept l traced w begin holds) slots id me i (λ x. either (eqb x 0) 1 x) (take_bit_quiet_records fits (step slots i 0 1 none) me)) (sym word) here
      where
        here : Allows (IsKept l traced w begin holds) slots id me (bit_at m) (λ x. either (eqb x 0) 1 x) (take_bit_quiet_records fits (step slots (bit_at m) 0 1 none) me)
        here = let v = me.0 in let n = v.number in let p = v.part in member_steps l traced w begin holds slots id (bit_at m) (λ x. either (eqb x 0) 1 x) v me.1
            (λ r q ds. ((r ≡ 0) × TakesQuietly fits m n p me.1 q ds) ⊎ ((r ≢ 0) × (q ≡ loser p m) × (ds ≡ me.1))) (take_bit_quiet_records fits (step slots (bit_at m) 0 1 none) me) kind
            (λ r q ds t. idle-waits p q v.child b before (⊎_elim (λ (u : (r ≡ 0) × TakesQuietly fits m n p me.1 q ds). ap (λ (z : Part T H). z.life) u.1.4) (λ (u : (r ≢ 0) × (q ≡ loser p m) × (ds ≡ me.1)). ap (λ (z : Part T H). z.life) u.1) t))
            (λ r q ds world t k is. let same : m ≡ k = omega arith in subst (λ (k : ℕ). (r ≡ 0 → WonQuietly fits k me (with_part v q, ds)) × (r ≢ 0 → Becomes me (loser p k) (with_part v q, ds))) same (⊎_elim
            (λ (u : (r ≡ 0) × TakesQuietly fits m n p me.1 q ds). (
              (λ _. let x = u.1 in (x.0, (λ w' s is has. let e : Some w ≡ Some w' = sym world ∙ is in let f : w ≡ w' = cc in subst (λ (z : W). fits z m x.0 n s) f (x.1 s has)), x.2, x.3, λ i. (with_part v (x.4 i), x.5 i))),
              λ miss. absurd (miss u.0),
            ))
            (λ (u : (r ≢ 0) × (q ≡ loser p m) × (ds ≡ me.1)). ((λ hit. absurd (u.0 hit)), λ _ i. (with_part v (u.1 i), u.2 i))) t))
            (takes_quietly n m p me.1 b inside before on)
