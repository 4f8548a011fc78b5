-- The steps on the bit of a mutex keep the rule.
use Rattle.std.proofs.Common.{get_or-set_same, Bool, true, false, cond, eqb, ◌≡◌, ◌≢◌, ℕ, ◌+◌, ◌<◌, ◌⊎◌, List, [], ◌∷◌, ◌++◌, length, get_or, set, refl, sym, ap, ◌∙◌, subst, inl, inr, ⊎_elim, arith, length-set, length-append, append-nil, Some, None, eq-eqb, ne_eqb}
use Rattle.std.specs.Prelude.{Option as Opt}
use mathlib.Core.Logic.{dite}
use mathlib.Core.Option.{Option, some, none, some-injective, some-ne-none}
use native.Mathlib.Decide.{ℕ_discrete}
use prog.Atomic.{either}
use lib.ListN.{get_elem?}
use Rattle.larch_actions.specs.declared.event.Event.{Event}
use Rattle.larch_actions.specs.declared.event.Life.TheVariants.{Live}
use Rattle.larch_actions.specs.declared.event.Action.{Action}
use Rattle.larch_actions.specs.declared.event.Action.TheVariants.{Resume, AlertReturn}
use Rattle.larch_actions.specs.declared.event.Layout.{Layout}
use Rattle.larch_actions.specs.declared.event.Pending.{Pending}
use Rattle.larch_actions.specs.declared.event.Pending.TheVariants.{Nothing, Waiting, AlertWaiting}
use Rattle.larch_actions.specs.Actions.{Spec, at_first, Acts, IsRun, by_thread, put}
use Rattle.larch_actions.specs.Layout.{IsNamed}
use Rattle.nub_rule.proofs.Names.{taken-named}
use Rattle.larch_actions.specs.Sets.{mem, without}
use Rattle.atomic_table.specs.Table.{Me, step, Allows, keeps, takes, gives, put_back, rest}
use Rattle.atomic_table.proofs.Lists.{set_else, set_here}
use Rattle.nub_rule.specs.declared.rule.Slot.{Slot}
use Rattle.nub_rule.specs.declared.rule.Slot.TheVariants.{Value}
use Rattle.nub_rule.specs.declared.view.Part.{Part}
use Rattle.nub_rule.specs.declared.view.Wait.{Wait}
use Rattle.nub_rule.specs.declared.view.View.{View}
use Rattle.nub_rule.specs.declared.view.Kind.TheVariants.{Member}
use Rattle.nub_rule.specs.Items.{HistoryItem, Shows, Pens, Core}
use Rattle.nub_rule.specs.Begun.{IsCounted}
use Rattle.nub_rule.specs.Parts.{is_at, Got, Lacks, MayRecord, closing_on, waits_on, counts_in, pending_of}
use Rattle.nub_rule.specs.Places.{bit_at, value_at, queue_at, cond_object}
use Rattle.nub_rule.specs.Plays.{with_part, recorded, Grows, event, acquire_event, release_event, taken_action, MayTake, try_bit_records, clear_bit_records, stint, Won, Freed, Becomes, MayFree}
use Rattle.nub_rule.specs.Rule.{FitsAs, IsKept}
use Rattle.nub_rule.proofs.Each.{at_within, at_below, put-here, put-else}
use Rattle.nub_rule.proofs.Idle.{idle-live}
use Rattle.nub_rule.proofs.Members.{Steps, member_steps}
use Rattle.nub_rule.proofs.Runs.{run-of, leads-snoc}
use Rattle.nub_rule.proofs.Frames.{lives-stay, lives-frame, other, sizes-frame, recorded-event, spins-frame, lines-frame, ready-stay, spins-stay, shown-stay, pen-stay, alert-seen-stays, alert-seen-frame}
use Rattle.nub_rule.proofs.Lines.{not_true, stand_none, mem-tail_of, lines-same}
use Rattle.nub_rule.proofs.SpinSteps.{nobody-by, one-by}
use Rattle.nub_rule.proofs.Penning.{either_way, pens-event, numbered-by}
use Rattle.nub_rule.proofs.Beside.{still}
use Rattle.nub_rule.proofs.Owing.{owes-try, owes-clear}
use Rattle.nub_rule.proofs.Beginning.{waits-stay, begun-frame, begun-same, counted-over}
use Rattle.larch_actions.specs.Takers.{givers}
use Rattle.nub_rule.specs.Stints.{stinters}
use Rattle.nub_rule.proofs.Stinting.{GivesNone, closing-waits, given, givers-other, givers-own, stinted-gives, stinted-takes, taken-gives, with_stint}
use Rattle.nub_rule.proofs.Handling.{same_slot}
use Rattle.nub_rule.proofs.Owning.{lacking, owned-take, owned-give}
use Rattle.nub_rule.proofs.Showing.{shows-wins, shows-clears}

both_false : (b : Bool) → cond b false false ≡ false
both_false true = refl
both_false false = refl

counts-none : (w : Wait) (c k : ℕ) → w.member ≡ None → counts_in (Some w) c k ≡ false
counts-none w c k e = ap (λ m. cond (eqb w.cond.0 c) (is_at m k) false) e ∙ both_false (eqb w.cond.0 c)

pub value_same : {T : Type 0} (k : ℕ) (x y : T) (xs : List (ℕ × Slot T)) → (k, Value (Some x)) ∷ xs ≡ (k, Value (Some y)) ∷ xs → x ≡ y
value_same {T} k x y xs e = let a : Value (Some x) ≡ Value (Some y) = same_slot k (Value (Some x)) (Value (Some y)) ((k, Value (Some x)) ∷ xs) xs refl e in let b : Some x ≡ Some y = cc in cc

pub by_taking : (n m : ℕ) (o : Opt Wait) (e : Event) → MayTake n m o e → e ≡ event n (taken_action m o)
by_taking n m o e may = ⊎_elim
    (λ (t : (o ≡ None) × (e ≡ acquire_event n m)). t.1 ∙ ap (λ (o : Opt Wait). event n (taken_action m o)) (sym t.0))
    (λ (t : (x : Wait) × (o ≡ Some x) × (x.mutex.0 ≡ m) × (x.member ≡ None) × (e ≡ event n (taken_action m (Some x)))). t.4 ∙ ap (λ (o : Opt Wait). event n (taken_action m o)) (sym t.1))
    may

module _ {T H : Type 0} where
  -- the part of a thread that took the mutex m with the value x, and changed nothing else that the other items read
  pub record HasTaken (m : ℕ) (x : T) (p q : Part T H) : Type 0 where
    pub version : q.version ≡ p.version
    pub life : q.life ≡ p.life
    pub held : q.held ≡ set p.held m (Some x)
    pub share : q.share ≡ p.share
    pub spin : q.spin ≡ p.spin
    pub queue : q.queue ≡ p.queue
    pub owed : q.owed ≡ p.owed
    pub stand : q.stand ≡ p.stand
    pub alerted : q.alerted ≡ p.alerted
    pub cleared : q.cleared ≡ p.cleared
    pub turns : q.turns ≡ without m p.turns
    pub raised : q.raised ≡ p.raised
    pub counted : IsCounted p → IsCounted q
    pub stints : q.stints ≡ p.stints
    pub after : (j : ℕ) → closing_on q.wait j ≡ false
    pub before : (j : ℕ) → j ≢ m → closing_on p.wait j ≡ false

  -- the part of a thread whose try of the gate o failed
  abbrev pub loser : Part T H → ℕ → Part T H
  loser p o = record p { failed = o ∷ p.failed; turns = without o p.turns }

module _ {T H W : Type 0} (l : Layout) (traced : Bool) (w : W) (begin : W → ℕ → H) (holds : W → List T → List H → Type 0) where
  -- the words after a try of the bit of m
  abbrev pub tried_words : ℕ → List ℕ → List ℕ
  tried_words m words = let r : ℕ = get_or words (bit_at m) 0 in set words (bit_at m) (either (eqb r 0) 1 r)

  -- the thread n takes the bit of m, which nobody has, with its value: what is left to show is what was told, what is shown, and the pen
  pub bit_taken : (n m : ℕ) (p q : Part T H) (x : T) (words : List ℕ) (homes : List (Option (Slot T))) (all : List (Part T H)) → get_elem? all n ≡ some p → m < l.mutexes → (c : Core l traced w holds words homes all) → get_or words (bit_at m) 0 ≡ 0 → get_elem? c.values m ≡ some x → HasTaken m x p q
      → (log : List Event) (spec : Spec) → ((j : ℕ) → givers j log ≡ givers j c.log) → IsRun l.version log spec → HistoryItem l log (set all n q) → Shows (set words (bit_at m) 1) c.spinner c.queue (put c.owner m (some n)) spec (set all n q) → Pens traced (length log) (set words (bit_at m) 1) c.writer (set all n q)
      → Core l traced w holds (tried_words m words) (set homes (value_at m) none) (set all n q)
  bit_taken n m p q x words homes all at inside c hit found t log spec same run recorded' shows pens =
      let r : ℕ = get_or words (bit_at m) 0 in let lawful = c.sizes.lawful in let ws = c.sizes.words_wide in
      let words' : List ℕ = set words (bit_at m) 1 in
      let homes' : List (Option (Slot T)) = set homes (value_at m) none in
      let free = nobody-by r (c.owner m) (c.owned.bits m inside) hit in
      let wide : length p.held ≡ 64 = c.sizes.parts_wide n p at in
      subst (λ b. Core l traced w holds (set words (bit_at m) (either b 1 r)) homes' (set all n q)) (sym (eq-eqb r 0 hit)) record {
        log = log;
        spec = spec;
        owner = put c.owner m (some n);
        spinner = c.spinner;
        writer = c.writer;
        queue = c.queue;
        owed = c.owed;
        values = c.values;
        shares = c.shares;
        sizes = sizes-frame all n p q at l words words' homes homes' (length-set words (bit_at m) 1) (length-set homes (value_at m) none) t.version (ap length t.held ∙ length-set p.held m (Some x)) c.sizes;
        run = run;
        recorded = recorded';
        owned = owned-take l (holds w) c.owner c.values c.shares words homes all n m p q at c.owned wide (omega arith) inside lawful x free found t.held t.share;
        spins = spins-frame all n p q at c.spinner c.queue c.owed words words' homes homes' (spins-stay words (bit_at m) 1 (λ k up z. omega arith) (λ k up z. omega arith)) (λ k lo. set_else homes (value_at m) (queue_at k) none (λ z. omega arith)) t.spin t.queue t.owed c.spins;
        lines = lines-frame all n p q at (λ k. c.owed k ++ c.queue k) words words' c.sizes.few (ready-stay words (bit_at m) 1 (λ k up z. omega arith)) t.stand c.lines;
        shows = shows;
        pens = pens;
        alert_seen = alert-seen-stays all n p q at words (bit_at m) 1 c.sizes.few (λ k up z. omega arith) t.alerted c.alert_seen;
        lives = lives-frame all n p q at words words' c.sizes.few (lives-stay words (bit_at m) 1 (λ k up z. omega arith)) t.life c.lives;
        owes = owes-try c.queue words words' all n p q at m (λ k lo ne. other words (bit_at m) (bit_at k) 1 (λ z. ne (omega arith))) (λ z. let y = get_or-set_same words (bit_at m) 1 0 (omega arith) in omega arith) t.stand t.cleared t.turns c.owes;
        begun = begun-frame words words' all n p q at (waits-stay words (bit_at m) 1 (λ j lo y. omega arith)) t.raised t.counted c.begun;
        stinted = stinted-takes all n p q at m log free same t.stints t.after t.before c.stinted;
      }

  -- the thread n failed to take the bit of m
  pub bit_missed : (n m : ℕ) (p : Part T H) (words : List ℕ) (homes : List (Option (Slot T))) (all : List (Part T H)) → get_elem? all n ≡ some p → m < 192 → Core l traced w holds words homes all → get_or words (bit_at m) 0 ≢ 0 → Core l traced w holds (tried_words m words) homes (set all n (loser p m))
  bit_missed n m p words homes all at far c miss = let r : ℕ = get_or words (bit_at m) 0 in let q : Part T H = loser p m in
      subst (λ b. Core l traced w holds (set words (bit_at m) (either b 1 r)) homes (set all n q)) (sym (ne_eqb r 0 miss))
      (still l traced w holds words homes all (bit_at m) n p q at record { version = refl; life = refl; seen = refl; mine = refl; places = refl; held = refl; share = refl; stints = refl; closing = λ m. refl } refl refl refl refl refl refl refl c
      (lines-same (λ k. c.owed k ++ c.queue k) (λ k. c.owed k ++ c.queue k) words words all n p q at c.sizes.few (λ t lo. refl) (λ k. refl) refl c.lines)
      (alert-seen-frame all n p q at words words c.sizes.few (λ k lo. refl) refl c.alert_seen)
      (owes-try c.queue words words all n p q at m (λ k lo ne. refl) miss refl refl refl c.owes)
      (begun-same words words all n p q at (λ j lo. refl) refl refl refl c.begun))

  -- the state after n took m, with these pending
  abbrev took : Spec → ℕ → ℕ → (ℕ → Pending) → Spec
  took spec m n f = record spec { holder = put spec.holder m (some n); pending = f }

  -- by the event e the thread n may take m, and waits no longer
  abbrev Taking : Event → ℕ → ℕ → Part T H → Type 0
  Taking e m n p = (words : List ℕ) (homes : List (Option (Slot T))) (all : List (Part T H)) (c : Core l traced w holds words homes all) → get_elem? all n ≡ some p → c.owner m ≡ none
      → (f : ℕ → Pending) × Acts c.spec e (took c.spec m n f) × (f n ≡ Nothing) × ((j : ℕ) → j ≢ n → f j ≡ c.spec.pending j) × ((k : ℕ) → k ≢ m → waits_on p.wait k ≡ false) × ((c k : ℕ) → counts_in p.wait c k ≡ false)

  -- the event has names of the layout
  abbrev Naming : Event → ℕ → Part T H → Type 0
  Naming e n p = (words : List ℕ) (homes : List (Option (Slot T))) (all : List (Part T H)) (c : Core l traced w holds words homes all) → get_elem? all n ≡ some p → IsNamed l e.action

  taking-acquire : (m n : ℕ) (p : Part T H) → p.life ≡ Live → p.wait ≡ None → Taking (acquire_event n m) m n p
  taking-acquire m n p lives out words homes all c at free = let idle : c.spec.pending n ≡ Nothing = c.shows.pendings.pends n p at ∙ ap pending_of out in
      (c.spec.pending, (record { live = c.shows.lives n p at ∙ lives; order = idle; requires_met = tt; when_met = c.shows.holders.free m free; choice_met = tt }, refl), idle, (λ j ne. refl), (λ k ne. ap (λ w. waits_on w k) out), λ c k. ap (λ w. counts_in w c k) out)

  -- the thread was taken out of the condition
  taking-second : (n : ℕ) (p : Part T H) (x : Wait) → p.life ≡ Live → p.wait ≡ Some x → x.member ≡ None → p.stand ≡ None → Taking (event n (taken_action x.mutex.0 (Some x))) x.mutex.0 n p
  taking-second n p x lives in_wait outside apart words homes all c at free = let s = c.shows.conditions in let t = s.knows n p at in
      let m : ℕ = x.mutex.0 in
      let not_counted : (c k : ℕ) → counts_in p.wait c k ≡ false = λ c k. ap (λ w. counts_in w c k) in_wait ∙ counts-none x c k outside in
      let o : ℕ = cond_object x.cond.0 in
      let unqueued : mem n (c.queue o) ≡ false = not_true (mem n (c.queue o)) (λ is. stand_none p.stand o apart ((c.lines.stands n p at).lined o (mem-tail_of n (c.owed o) (c.queue o) is)).0) in
      let out : c.spec.members x.cond.0 n ≡ false = s.member x.cond.0 n ∙ (ap (λ b. cond b true (s.counting x.cond.0 n)) (s.queued x.cond.0 n unqueued) ∙ (t.counts x.cond.0 ∙ not_counted x.cond.0 (s.count x.cond.0))) in
      let f = put c.spec.pending n Nothing in
      let pends : c.spec.pending n ≡ cond x.alertable (AlertWaiting x.mutex x.cond) (Waiting x.mutex x.cond) = c.shows.pendings.pends n p at ∙ ap pending_of in_wait in (
        f,
        either_way x.alertable
            (λ is. subst (λ (a : Action). Acts c.spec (event n a) (took c.spec m n f)) (sym (ap (λ b. cond b (AlertReturn x.mutex x.cond) (Resume x.mutex x.cond)) is))
            (record { live = c.shows.lives n p at ∙ lives; order = pends ∙ ap (λ b. cond b (AlertWaiting x.mutex x.cond) (Waiting x.mutex x.cond)) is; requires_met = tt; when_met = (c.shows.holders.free m free, out); choice_met = tt }, refl))
            (λ is. subst (λ (a : Action). Acts c.spec (event n a) (took c.spec m n f)) (sym (ap (λ b. cond b (AlertReturn x.mutex x.cond) (Resume x.mutex x.cond)) is))
            (record { live = c.shows.lives n p at ∙ lives; order = pends ∙ ap (λ b. cond b (AlertWaiting x.mutex x.cond) (Waiting x.mutex x.cond)) is; requires_met = tt; when_met = (c.shows.holders.free m free, out); choice_met = tt }, refl)),
        put-here c.spec.pending n Nothing,
        (λ j ne. put-else c.spec.pending n j Nothing ne),
        (λ k ne. ap (λ w. waits_on w k) in_wait ∙ ne_eqb x.mutex.0 k (λ e. ne (sym e))),
        not_counted,
      )

  taking : (m n : ℕ) (p : Part T H) (e : Event) → p.life ≡ Live → p.stand ≡ None → MayTake n m p.wait e → Taking (event n (taken_action m p.wait)) m n p
  taking m n p e lives apart may = ⊎_elim
      (λ (t : (p.wait ≡ None) × (e ≡ acquire_event n m)). subst (λ (o : Opt Wait). Taking (event n (taken_action m o)) m n p) (sym t.0) (taking-acquire m n p lives t.0))
      (λ (t : (x : Wait) × (p.wait ≡ Some x) × (x.mutex.0 ≡ m) × (x.member ≡ None) × (e ≡ event n (taken_action m (Some x)))).
      subst (λ (o : Opt Wait). Taking (event n (taken_action m o)) m n p) (sym t.1) (subst (λ (k : ℕ). Taking (event n (taken_action k (Some t.0))) k n p) t.2 (taking-second n p t.0 lives t.1 t.3 apart)))
      may

  -- the part of the thread that wins the mutex m with the value x
  abbrev winner : Part T H → ℕ → T → List Event → Event → Part T H
  winner p m x log e = record (recorded p log e) { held = set p.held m (Some x); wait = None; failed = without m p.failed; turns = without m p.turns }

  -- what the winner of the mutex m learns
  abbrev Wins : (W → ℕ → T → ℕ → H → Type 0) → Event → ℕ → ℕ → Part T H → List (ℕ × Slot T) → Part T H → List (ℕ × Slot T) → Type 0
  Wins fits e m n p cs q ds = (x : T) × (between : List Event) × ((s : H) → p.share ≡ Some s → fits w m x n s) × Grows n p between e × Lacks p m × (get_elem? (set p.held m (Some x)) m ≡ some (Some x))
      × (q ≡ winner p m x (p.seen ++ between) e) × (ds ≡ (value_at m, Value (Some x)) ∷ cs)

  module _ (fits : W → ℕ → T → ℕ → H → Type 0)
      (law : (values : List T) (shares : List H) → holds w values shares → (m : ℕ) (x : T) → get_elem? values m ≡ some x → (t : ℕ) (s : H) → get_elem? shares t ≡ some s → fits w m x t s) where
    tries_at : (e : Event) (n m : ℕ) (p : Part T H) (cs : List (ℕ × Slot T)) → m < l.mutexes → e.thread.0 ≡ n → p.stand ≡ None → MayRecord traced p.life p.pen → Taking e m n p → Naming e n p → GivesNone e.action
        → Steps l traced w begin holds n (bit_at m) (λ x. either (eqb x 0) 1 x) p cs (λ r q ds. ((r ≡ 0) × Wins fits e m n p cs q ds) ⊎ ((r ≢ 0) × (q ≡ record p { failed = m ∷ p.failed; turns = without m p.turns }) × (ds ≡ cs)))
    tries_at e n m p cs inside by apart may taking naming none_given words homes all c at small = let r : ℕ = get_or words (bit_at m) 0 in let lawful = c.sizes.lawful in let ws = c.sizes.words_wide in let hs = c.sizes.homes_wide in
        let far : m < 192 = omega arith in let near : m < 64 = omega arith in dite (ℕ_discrete r 0)
        (λ hit.
        let o = c.owned in
        let free = nobody-by r (c.owner m) (o.bits m inside) hit in
        let found = at_below c.values m (let z = o.values_wide in omega arith) in
        let x = found.0 in
        let wide : length p.held ≡ 64 = c.sizes.parts_wide n p at in
        let chronicle = c.recorded.each n p at in
        let seen = chronicle.begins in
        let q = winner p m x (p.seen ++ seen.0) e in
        let longer : q.seen ≡ c.log ++ e ∷ [] = ap (λ (z : List Event). z ++ e ∷ []) (sym seen.1) in
        let placed : q.places ≡ p.places ++ length c.log ∷ [] = ap (λ (z : List Event). p.places ++ length z ∷ []) (sym seen.1) in
        let take = taking words homes all c at free in
        let spec' = took c.spec m n take.0 in
        let run = leads-snoc (at_first l.version) c.log c.spec e spec' c.run take.1 in
        let recorded' = recorded-event all n p q at l c.log e by (naming words homes all c at) longer refl placed c.recorded in
        let words' : List ℕ = set words (bit_at m) 1 in
        let homes' : List (Option (Slot T)) = set homes (value_at m) none in
        let more : length (c.log ++ e ∷ []) ≡ length c.log + 1 = length-append c.log (e ∷ []) in (
          q,
          takes (value_at m) (Value (Some x)),
          o.at_home m inside x found.1 free,
          bit_taken n m p q x words homes all at inside c hit found.1 record { version = refl; life = refl; held = refl; share = refl; spin = refl; queue = refl; owed = refl; stand = refl; alerted = refl; cleared = refl; turns = refl; raised = refl; counted = λ h. counted-over p q refl h refl apart; stints = refl; after = λ j. refl; before = λ j ne. closing-waits p.wait j (take.4 j ne) } (c.log ++ e ∷ []) spec' (λ j. givers-other j c.log e (none_given j)) run recorded'
              (shows-wins words words' (shown-stay words (bit_at m) 1 (λ k up z. omega arith) (λ k up z. omega arith) (λ k up z. omega arith)) c.spinner c.queue c.owner c.spec all n p q at refl m take.0 refl refl refl take.4 take.5 take.2 take.3 c.shows)
              (subst (λ (z : ℕ). Pens traced z words' c.writer (set all n q)) (sym more) (pens-event traced (length c.log) words c.writer all n p q at words' (pen-stay words (bit_at m) 1 (λ z. omega arith) (λ z. omega arith)).0 (pen-stay words (bit_at m) 1 (λ z. omega arith) (λ z. omega arith)).1 may refl c.pens)),
          inl (
            hit,
            (
              x,
              seen.0,
              (λ s is. let u = o.shared n p at in let f : Some u.0 ≡ Some s = sym u.1 ∙ is in let g : u.0 ≡ s = cc in law c.values c.shares o.kept m x found.1 n s (u.2 ∙ ap some g)),
              record {
                legal = (spec', run-of l.version p.version (c.sizes.versions n p at) spec' (sym longer) run);
                own = ap (by_thread n) longer ∙ (recorded'.each n q (set_here all n q (at_within all n p at))).own;
                number = λ k is. numbered-by traced (length c.log) words c.writer all n p q at c.pens k is ∙ ap (λ (z : List Event). length z) seen.1;
              },
              lacking p m (omega arith) (λ has. some-ne-none n (sym ((o.standing n p at m).0 has) ∙ free)),
              set_here p.held m (Some x) (omega arith),
              refl,
              refl,
            ),
          ),
        ))
        (λ miss. (loser p m, keeps, tt, bit_missed n m p words homes all at far c miss, inr (miss, refl, refl)))

    try_bit_at : (slots id m : ℕ) (e : Event) (me : Me (Slot T) (View T H W)) → m < l.mutexes → me.0.kind ≡ Member → me.0.part.stand ≡ None → MayTake me.0.number m me.0.part.wait e → MayRecord traced me.0.part.life me.0.part.pen
        → Allows (IsKept l traced w begin holds) slots id me (bit_at m) (λ x. either (eqb x 0) 1 x) (try_bit_records fits (step slots (bit_at m) 0 1 none) me)
    try_bit_at slots id m e me inside kind apart may pen = let v = me.0 in let n = v.number in let p = v.part in let ev = event n (taken_action m p.wait) in member_steps l traced w begin holds slots id (bit_at m) (λ x. either (eqb x 0) 1 x) v me.1
        (λ r q ds. ((r ≡ 0) × Wins fits ev m n p me.1 q ds) ⊎ ((r ≢ 0) × (q ≡ record p { failed = m ∷ p.failed; turns = without m p.turns }) × (ds ≡ me.1))) (try_bit_records fits (step slots (bit_at m) 0 1 none) me) kind
        (λ r q ds t. idle-live p q v.child pen.0 (⊎_elim (λ (u : (r ≡ 0) × Wins fits ev m n p me.1 q ds). ap (λ (z : Part T H). z.life) u.1.6) (λ (u : (r ≢ 0) × (q ≡ record p { failed = m ∷ p.failed; turns = without m p.turns }) × (ds ≡ me.1)). ap (λ (z : Part T H). z.life) u.1) t))
        (λ r q ds world t k is. let same : m ≡ k = omega arith in subst (λ (k : ℕ). (r ≡ 0 → Won fits k me (with_part v q, ds)) × (r ≢ 0 → Becomes me (record p { failed = k ∷ p.failed; turns = without k p.turns }) (with_part v q, ds))) same (⊎_elim
        (λ (u : (r ≡ 0) × Wins fits ev m n p me.1 q ds). (
          (λ _. let x = u.1 in (x.0, x.1, (λ w' s is has. let e : Some w ≡ Some w' = sym world ∙ is in let f : w ≡ w' = cc in subst (λ (z : W). fits z m x.0 n s) f (x.2 s has)), x.3, x.4, x.5, λ i. (with_part v (x.6 i), x.7 i))),
          λ miss. absurd (miss u.0),
        ))
        (λ (u : (r ≢ 0) × (q ≡ record p { failed = m ∷ p.failed; turns = without m p.turns }) × (ds ≡ me.1)). ((λ hit. absurd (u.0 hit)), λ _ i. (with_part v (u.1 i), u.2 i))) t))
        (tries_at ev n m p me.1 inside refl apart pen (taking m n p e pen.0 apart may) (λ words homes all c at. taken-named l traced w holds words homes all c n p at m inside p.wait refl) (taken-gives m p.wait))

    -- the same at a word that is this place
    pub try_bit_keeps : (slots id m : ℕ) (e : Event) (me : Me (Slot T) (View T H W)) (i : ℕ) → i ≡ bit_at m → m < l.mutexes → me.0.kind ≡ Member → me.0.part.stand ≡ None → MayTake me.0.number m me.0.part.wait e → MayRecord traced me.0.part.life me.0.part.pen
        → Allows (IsKept l traced w begin holds) slots id me i (λ x. either (eqb x 0) 1 x) (try_bit_records fits (step slots i 0 1 none) me)
    try_bit_keeps slots id m e me i word inside kind apart may pen = subst (λ (i : ℕ). Allows (IsKept l traced w begin holds) slots id me i (λ x. either (eqb x 0) 1 x) (try_bit_records fits (step slots i 0 1 none) me)) (sym word) (try_bit_at slots id m e me inside kind apart may pen)

  -- what the thread n learns that frees the mutex m
  abbrev Frees : (H → H) → ℕ → ℕ → T → T → Part T H → List (ℕ × Slot T) → Part T H → List (ℕ × Slot T) → Type 0
  Frees next m n x y p cs q ds = (s : H) × (p.share ≡ Some s) × (between : List Event) × Grows n p between (release_event n m)
      × (q ≡ record (recorded p (p.seen ++ between) (release_event n m)) { held = set p.held m None; share = Some (next s); stints = with_stint p n m x y s (next s); cleared = m ∷ p.cleared }) × (ds ≡ rest cs)

  module _ (allows : W → ℕ → ℕ → T → T → H → H → Type 0)
      (law : (values : List T) (shares : List H) → holds w values shares → (m : ℕ) (x y : T) → get_elem? values m ≡ some x → (t : ℕ) (s r : H) → get_elem? shares t ≡ some s → allows w m t x y s r → holds w (set values m y) (set shares t r)) where
    frees_at : (n m : ℕ) (p : Part T H) (cs : List (ℕ × Slot T)) (x y : T) (next : H → H) → m < l.mutexes → p.wait ≡ None → p.stand ≡ None → Got p m x → cs ≡ (value_at m, Value (Some y)) ∷ rest cs → MayRecord traced p.life p.pen → ((s : H) → p.share ≡ Some s → allows w m n x y s (next s))
        → Steps l traced w begin holds n (bit_at m) (λ _. 0) p cs (λ r q ds. (r ≡ 1) × Frees next m n x y p cs q ds)
    frees_at n m p cs x y next inside out apart got first may allowed words homes all c at small =
        let lawful = c.sizes.lawful in let ws = c.sizes.words_wide in let hs = c.sizes.homes_wide in
        let far : m < 192 = omega arith in let near : m < 64 = omega arith in
        let e = release_event n m in
        let o = c.owned in
        let mine = o.shared n p at in
        let s : H = mine.0 in
        let u : H = next s in
        let own : c.owner m ≡ some n = (o.standing n p at m).0 (x, got) in
        let here : get_elem? c.values m ≡ some x = o.current n p at m x got in
        let wide : length p.held ≡ 64 = c.sizes.parts_wide n p at in
        let seen = (c.recorded.each n p at).begins in
        let q : Part T H = record (recorded p (p.seen ++ seen.0) e) { held = set p.held m None; share = Some u; stints = with_stint p n m x y s u; cleared = m ∷ p.cleared } in
        let longer : q.seen ≡ c.log ++ e ∷ [] = ap (λ (z : List Event). z ++ e ∷ []) (sym seen.1) in
        let placed : q.places ≡ p.places ++ length c.log ∷ [] = ap (λ (z : List Event). p.places ++ length z ∷ []) (sym seen.1) in
        let held : c.spec.holder m ≡ some n = c.shows.holders.holds n p at m own ∙ ap (λ w. cond (waits_on w m) none (some n)) out in
        let idle : c.spec.pending n ≡ Nothing = c.shows.pendings.pends n p at ∙ ap pending_of out in
        let spec' : Spec = record c.spec { holder = put c.spec.holder m none } in
        let acts : Acts c.spec e spec' = (record { live = c.shows.lives n p at ∙ may.0; order = idle; requires_met = held; when_met = tt; choice_met = tt }, refl) in
        let run = leads-snoc (at_first l.version) c.log c.spec e spec' c.run acts in
        let recorded' = recorded-event all n p q at l c.log e refl inside longer refl placed c.recorded in
        let words' : List ℕ = set words (bit_at m) 0 in
        let line : Slot T = Value (Some y) in
        let homes' : List (Option (Slot T)) = set homes (value_at m) (some line) in
        let more : length (c.log ++ e ∷ []) ≡ length c.log + 1 = length-append c.log (e ∷ []) in (
          q,
          gives,
          tt,
          subst (λ (z : List (Option (Slot T))). Core l traced w holds words' z (set all n q)) (ap (put_back homes) (sym first)) record {
            log = c.log ++ e ∷ [];
            spec = spec';
            owner = put c.owner m none;
            spinner = c.spinner;
            writer = c.writer;
            queue = c.queue;
            owed = c.owed;
            values = set c.values m y;
            shares = set c.shares n u;
            sizes = sizes-frame all n p q at l words words' homes homes' (length-set words (bit_at m) 0) (length-set homes (value_at m) (some line)) refl (length-set p.held m None) c.sizes;
            run = run;
            recorded = recorded';
            owned = owned-give l (holds w) c.owner c.values c.shares words homes all n m p q at o wide (omega arith) inside lawful y u own (omega arith) (at_within c.values m x here) (at_within c.shares n s mine.2) (law c.values c.shares o.kept m x y here n s u mine.2 (allowed s mine.1)) refl refl;
            spins = spins-frame all n p q at c.spinner c.queue c.owed words words' homes homes' (spins-stay words (bit_at m) 0 (λ k up z. omega arith) (λ k up z. omega arith)) (λ k lo. set_else homes (value_at m) (queue_at k) (some line) (λ z. omega arith)) refl refl refl c.spins;
            lines = lines-frame all n p q at (λ k. c.owed k ++ c.queue k) words words' c.sizes.few (ready-stay words (bit_at m) 0 (λ k up z. omega arith)) refl c.lines;
            shows = shows-clears words words' (shown-stay words (bit_at m) 0 (λ k up z. omega arith) (λ k up z. omega arith) (λ k up z. omega arith)) c.spinner c.queue c.owner c.spec all n p q at refl m (put c.spec.holder m none) refl refl refl refl (put-here c.spec.holder m none) (λ k ne. put-else c.spec.holder m k none ne) c.shows;
            pens = subst (λ (z : ℕ). Pens traced z words' c.writer (set all n q)) (sym more) (pens-event traced (length c.log) words c.writer all n p q at words' (pen-stay words (bit_at m) 0 (λ z. omega arith) (λ z. omega arith)).0 (pen-stay words (bit_at m) 0 (λ z. omega arith) (λ z. omega arith)).1 may refl c.pens);
            alert_seen = alert-seen-stays all n p q at words (bit_at m) 0 c.sizes.few (λ k up z. omega arith) refl c.alert_seen;
            lives = lives-frame all n p q at words words' c.sizes.few (lives-stay words (bit_at m) 0 (λ k up z. omega arith)) refl c.lives;
            owes = owes-clear c.queue words words' all n p q at m (λ k lo ne. other words (bit_at m) (bit_at k) 0 (λ z. ne (omega arith))) apart refl refl refl c.owes;
            begun = begun-same words words' all n p q at (waits-stay words (bit_at m) 0 (λ j lo y. omega arith)) refl refl refl c.begun;
            stinted = stinted-gives all n p q at m (c.log ++ e ∷ []) x y s u c.stinted own here mine.2 (law c.values c.shares o.kept m x y here n s u mine.2 (allowed s mine.1)) refl
                (givers-own m c.log e (eq-eqb m m refl) ∙ ap (λ l. l ++ n ∷ []) (given all n p q at m false c.stinted own (ap (λ w. closing_on w m) out) ∙ append-nil (stinters m c.stinted.stints))) (λ j ne. givers-other j c.log e (ne_eqb m j (λ z. ne (sym z)))) (λ j ne. refl);
          },
          (
            one-by (get_or words (bit_at m) 0) n (c.owner m) (o.bits m inside) own,
            (
              s,
              mine.1,
              seen.0,
              record {
                legal = (spec', run-of l.version p.version (c.sizes.versions n p at) spec' (sym longer) run);
                own = ap (by_thread n) longer ∙ (recorded'.each n q (set_here all n q (at_within all n p at))).own;
                number = λ k is. numbered-by traced (length c.log) words c.writer all n p q at c.pens k is ∙ ap (λ (z : List Event). length z) seen.1;
              },
              refl,
              refl,
            ),
          ),
        )

    clear_bit_at : (after : W → ℕ → ℕ → T → T → H → H) (slots id m : ℕ) (me : Me (Slot T) (View T H W)) → m < l.mutexes → me.0.kind ≡ Member → me.0.part.wait ≡ None → me.0.part.stand ≡ None → MayRecord traced me.0.part.life me.0.part.pen → MayFree allows after m me
        → Allows (IsKept l traced w begin holds) slots id me (bit_at m) (λ _. 0) (clear_bit_records after (step slots (bit_at m) 0 0 none) me)
    clear_bit_at after slots id m me inside kind out apart pen may st r wide at small = let v = me.0 in let n = v.number in let p = v.part in let x : T = may.0 in let y : T = may.1 in
        let world : v.world ≡ Some w = (subst (FitsAs l.version l.threads r.given w begin r.all r.seat_of id v) kind (r.fits id v at)).world in
        let next = λ (s : H). after w m n x y s in
        member_steps l traced w begin holds slots id (bit_at m) (λ _. 0) v me.1 (λ r q ds. (r ≡ 1) × Frees next m n x y p me.1 q ds) (clear_bit_records after (step slots (bit_at m) 0 0 none) me) kind
        (λ r q ds t. idle-live p q v.child pen.0 (ap (λ (z : Part T H). z.life) t.1.4))
        (λ r q ds world' t' k is. let t = t'.1 in let same : m ≡ k = omega arith in subst (λ (k : ℕ). Freed after k me r (with_part v q, ds)) same (
          t'.0,
          t.2,
          Some (next t.0),
          with_stint p n m x y t.0 (next t.0),
          t.3,
          (λ i. (with_part v (t.4 i), t.5 i)),
          λ w' s' x' y' is' share' got' first'.
              let a : Some x ≡ Some x' = some-injective (Some x) (Some x') (sym may.2 ∙ got') in
              let b : x ≡ x' = cc in
              let c : Some t.0 ≡ Some s' = sym t.1 ∙ share' in
              let d : t.0 ≡ s' = cc in
              let g : Some w ≡ Some w' = sym world ∙ is' in
              let h : w ≡ w' = cc in
              let e = value_same (value_at m) y y' (rest me.1) (sym may.3 ∙ first') in
              ((λ j. Some (after (h j) m n (b j) (e j) (d j))), λ j. p.stints ++ stint after (h j) m n (b j) (e j) (d j) ∷ []),
        ))
        (frees_at n m p me.1 x y next inside out apart may.2 may.3 pen (λ s is. may.4 w s world is)) st r wide at small

    -- the same at a word that is this place
    pub clear_bit_keeps : (after : W → ℕ → ℕ → T → T → H → H) (slots id m : ℕ) (me : Me (Slot T) (View T H W)) (i : ℕ) → i ≡ bit_at m → m < l.mutexes → me.0.kind ≡ Member → me.0.part.wait ≡ None → me.0.part.stand ≡ None → MayRecord traced me.0.part.life me.0.part.pen → MayFree allows after m me
        → Allows (IsKept l traced w begin holds) slots id me i (λ _. 0) (clear_bit_records after (step slots i 0 0 none) me)
    clear_bit_keeps after slots id m me i word inside kind out apart pen may = subst (λ (i : ℕ). Allows (IsKept l traced w begin holds) slots id me i (λ _. 0) (clear_bit_records after (step slots i 0 0 none) me)) (sym word) (clear_bit_at after slots id m me inside kind out apart pen may)
