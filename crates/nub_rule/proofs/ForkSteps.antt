-- The fork of a thread keeps the rule. It changes two parts at once, that of the thread that forks and that of the one forked.
use Rattle.std.proofs.Common.{Bool, append-nil, ◌≡◌, ◌≢◌, ℕ, ◌+◌, ◌<◌, ◌≤◌, List, [], ◌∷◌, ◌++◌, length, set, refl, sym, ap, ◌∙◌, subst, inl, inr, ⊎_elim, arith, get_or-set_same, length-set, length-append, None}
use Rattle.std.specs.Prelude.{Option as Opt, Some}
use mathlib.Core.Option.{Option, some, none}
use lib.ListN.{get_elem?}
use Rattle.larch_actions.specs.declared.event.Event.{Event}
use Rattle.larch_actions.specs.declared.event.Layout.{Layout}
use Rattle.larch_actions.specs.declared.event.Life.TheVariants.{Unborn, Live}
use Rattle.larch_actions.specs.declared.event.Pending.TheVariants.{Nothing}
use Rattle.larch_actions.specs.declared.event.Version.TheVariants.{Two}
use Rattle.larch_actions.specs.Actions.{Spec, Acts, at_first, by_thread, put}
use Rattle.atomic_table.specs.Table.{Me, step, Allows, keeps}
use Rattle.atomic_table.proofs.Lists.{at_set, set_else, set_here}
use Rattle.nub_rule.specs.declared.rule.Slot.{Slot}
use Rattle.nub_rule.specs.declared.view.Child.{Child}
use Rattle.nub_rule.specs.declared.view.Child.TheVariants.{May, Forked}
use Rattle.nub_rule.specs.declared.view.Part.{Part}
use Rattle.nub_rule.specs.declared.view.View.{View}
use Rattle.nub_rule.specs.declared.view.Kind.TheVariants.{Member}
use Rattle.nub_rule.specs.Items.{Chronicle, HistoryItem, Pens, Core}
use Rattle.nub_rule.specs.Parts.{MayRecord, newborn, unborn, pending_of}
use Rattle.nub_rule.specs.Places.{most_threads, bit_at, life_at}
use Rattle.atomic_table.specs.Seated.{TableId}
use Rattle.nub_rule.specs.Known.{IsThread}
use Rattle.nub_rule.specs.Plays.{Grows, Sat, recorded, with_part, fork_event, fork_life_records}
use Rattle.nub_rule.specs.Rule.{ChildFits, FitsAs, SeatFits, IsKept, IsOfChild}
use Rattle.nub_rule.proofs.Apart.{thread-of}
use Rattle.nub_rule.proofs.Each.{at_within, each-set}
use Rattle.nub_rule.proofs.Runs.{leads-snoc, run-of}
use Rattle.nub_rule.proofs.Idle.{idle-live}
use Rattle.nub_rule.proofs.Members.{others_fit, placed-set}
use Rattle.nub_rule.proofs.Frames.{other, alert-seen-frame, alert-seen-stays, bits-stay, lines-frame, lives-frame, owned-frame, pen-stay, pens-frame, ready-stay, shown-stay, shows-frame, sizes-frame, spins-frame, spins-stay, recorded-event}
use Rattle.nub_rule.proofs.Beginning.{waits-stay, begun-same}
use Rattle.nub_rule.proofs.Stinting.{stinted-event, stinted-frame}
use Rattle.nub_rule.proofs.LifeSteps.{life-aside, lives-own, shows-life, two-of}
use Rattle.nub_rule.proofs.Owing.{owes-frame}
use Rattle.nub_rule.proofs.Penning.{pens-event, numbered-by}

module _ {T H : Type 0} (all : List (Part T H)) (t : ℕ) (p q : Part T H) (at : get_elem? all t ≡ some p) where
  -- a thread comes to know the whole history
  recorded-known : (l : Layout) (log : List Event) → q.seen ≡ log → q.mine ≡ p.mine → q.places ≡ p.places → HistoryItem l log all → HistoryItem l log (set all t q)
  recorded-known l log seen mine places h = let c = h.each t p at in record {
    people = λ i e there. subst (λ (z : ℕ). e.thread.0 < z) (sym (length-set all t q)) (h.people i e there);
    names = h.names;
    each = each-set (Chronicle log) (Chronicle log) all t q record { begins = ([], sym (ap (λ l. l ++ []) seen ∙ append-nil log)); own = c.own ∙ sym mine; placed = c.placed ∙ sym places } (λ k r ne at' d. d) h.each;
    longest = inr (t, q, set_here all t q (at_within all t p at), seen);
  }

module _ {T H W : Type 0} (l : Layout) (traced : Bool) (w : W) (holds : W → List T → List H → Type 0) where
  -- what the thread n has to show when it forks the thread t, of this share
  pub record Forks (n t : ℕ) (p : Part T H) (s : Opt H) (words : List ℕ) (homes : List (Option (Slot T))) (all : List (Part T H)) : Type 0 where
    pub between : List Event
    pub grows : Grows n p between (fork_event n t)
    pub core : Core l traced w holds (set words (life_at t) 1) homes (set (set all n (recorded p (p.seen ++ between) (fork_event n t))) t (newborn l.version ((p.seen ++ between) ++ fork_event n t ∷ []) s))

  forks-of : (n t : ℕ) (p : Part T H) (s : Opt H) (words : List ℕ) (homes : List (Option (Slot T))) (all : List (Part T H)) → Core l traced w holds words homes all → get_elem? all n ≡ some p → get_elem? all t ≡ some (unborn l.version s) → t ≢ n → p.wait ≡ None → MayRecord traced p.life p.pen → Forks n t p s words homes all
  forks-of n t p s words homes all c at there ne out may =
      let i : ℕ = life_at t in
      let e = fork_event n t in
      let few = c.sizes.few in
      let many = c.sizes.count in
      let wide = c.sizes.words_wide in
      let inside = at_within all t (unborn l.version s) there in
      let low : t < most_threads = omega arith in
      let named : t < l.threads = omega arith in
      let aside = life-aside t low in
      let seen = (c.recorded.each n p at).begins in
      let z : List Event = p.seen ++ seen.0 in
      let q : Part T H = recorded p z e in
      let old : Part T H = unborn l.version s in
      let new : Part T H = newborn l.version (z ++ e ∷ []) s in
      let longer : q.seen ≡ c.log ++ e ∷ [] = ap (λ (y : List Event). y ++ e ∷ []) (sym seen.1) in
      let placed : q.places ≡ p.places ++ length c.log ∷ [] = ap (λ (y : List Event). p.places ++ length y ∷ []) (sym seen.1) in
      let unborn_there : c.spec.life t ≡ Unborn = c.shows.lives t old there in
      let two : l.version ≡ Two = two-of l traced w holds words homes all c t (λ f. let y : Unborn ≡ Live = sym unborn_there ∙ f in cc) in
      let idle_now : c.spec.pending n ≡ Nothing = c.shows.pendings.pends n p at ∙ ap pending_of out in
      let spec' : Spec = record c.spec { life = put c.spec.life t Live } in
      let acts : Acts c.spec e spec' = (record { live = c.shows.lives n p at ∙ may.0; order = idle_now; requires_met = unborn_there; when_met = tt; choice_met = tt }, refl) in
      let run = leads-snoc (at_first l.version) c.log c.spec e spec' c.run acts in
      let all' : List (Part T H) = set all n q in
      let recorded' : HistoryItem l (c.log ++ e ∷ []) all' = recorded-event all n p q at l c.log e refl (two, named) longer refl placed c.recorded in
      let there' : get_elem? all' t ≡ some old = set_else all n t q ne ∙ there in
      let few' : length all' ≤ most_threads = subst (λ (y : ℕ). y ≤ most_threads) (sym (length-set all n q)) few in
      let words' : List ℕ = set words i 1 in
      let more : length (c.log ++ e ∷ []) ≡ length c.log + 1 = length-append c.log (e ∷ []) in
      let pen = pen-stay words i 1 aside.pen aside.number in record {
        between = seen.0;
        grows = record {
          legal = (spec', run-of l.version p.version (c.sizes.versions n p at) spec' (sym longer) run);
          own = ap (by_thread n) longer ∙ (recorded'.each n q (set_here all n q (at_within all n p at))).own;
          number = λ k is. numbered-by traced (length c.log) words c.writer all n p q at c.pens k is ∙ ap (λ (y : List Event). length y) seen.1;
        };
        core = record {
          log = c.log ++ e ∷ [];
          spec = spec';
          owner = c.owner;
          spinner = c.spinner;
          writer = c.writer;
          queue = c.queue;
          owed = c.owed;
          values = c.values;
          shares = c.shares;
          sizes = sizes-frame all' t old new there' l words' words' homes homes refl refl refl refl (sizes-frame all n p q at l words words' homes homes (length-set words i 1) refl refl refl c.sizes);
          run = run;
          recorded = recorded-known all' t old new there' l (c.log ++ e ∷ []) longer refl refl recorded';
          owned = owned-frame all' t old new there' l (holds w) c.owner c.values c.shares words' words' homes homes c.sizes.lawful (λ m lo. refl) (λ m. refl) refl refl
              (owned-frame all n p q at l (holds w) c.owner c.values c.shares words words' homes homes c.sizes.lawful (bits-stay words i 1 aside.bits) (λ m. refl) refl refl c.owned);
          spins = spins-frame all' t old new there' c.spinner c.queue c.owed words' words' homes homes (λ o lo. (refl, refl)) (λ k lo. refl) refl refl refl
              (spins-frame all n p q at c.spinner c.queue c.owed words words' homes homes (spins-stay words i 1 aside.spins aside.lengths) (λ k lo. refl) refl refl refl c.spins);
          lines = lines-frame all' t old new there' (λ k. c.owed k ++ c.queue k) words' words' few' (λ k lo. refl) refl
              (lines-frame all n p q at (λ k. c.owed k ++ c.queue k) words words' few (ready-stay words i 1 aside.ready) refl c.lines);
          shows = shows-life words' words' record { counts = λ k lo. refl; sems = λ k lo. refl; alerts = λ k lo. refl } c.spinner c.queue c.owner c.spec all' t old new there' refl refl refl refl
              (shows-frame all n p q at c.spinner c.queue c.owner c.spec words words' (shown-stay words i 1 (λ k up y. omega arith) (λ k up y. omega arith) (λ k up y. omega arith)) refl refl refl refl refl c.shows);
          pens = pens-frame all' t old new there' traced (length (c.log ++ e ∷ [])) c.writer words' words' (refl, refl) refl
              (subst (λ (y : ℕ). Pens traced y words' c.writer all') (sym more) (pens-event traced (length c.log) words c.writer all n p q at words' pen.0 pen.1 may refl c.pens));
          alert_seen = alert-seen-frame all' t old new there' words' words' few' (λ k lo. refl) refl (alert-seen-stays all n p q at words i 1 few (λ k up y. omega arith) refl c.alert_seen);
          lives = lives-own words 1 all' t old new there' few' (get_or-set_same words i 1 0 (omega arith)) (lives-frame all n p q at words words few (λ k lo. refl) refl c.lives);
          owes = owes-frame c.queue words' words' all' t old new there' (λ j lo. refl) refl refl refl (owes-frame c.queue words words' all n p q at (λ j lo. other words i (bit_at j) 1 (λ y. omega arith)) refl refl refl c.owes);
          begun = begun-same words' words' all' t old new there' (λ j lo. refl) refl refl refl (begun-same words words' all n p q at (waits-stay words i 1 (λ j lo y. omega arith)) refl refl refl c.begun);
          stinted = stinted-frame all' t old new there' (c.log ++ e ∷ []) (λ m. refl) refl (λ m. refl) (stinted-event all n p q at e (λ m. refl) refl (λ m. refl) c.stinted);
        };
      }

module _ {T H W : Type 0} (l : Layout) (traced : Bool) (w : W) (begin : W → ℕ → H) (holds : W → List T → List H → Type 0) where
  fork_life_at : (slots id t : ℕ) (me : Me (Slot T) (View T H W)) → me.0.kind ≡ Member → me.0.child ≡ May t → me.0.part.wait ≡ None → MayRecord traced me.0.part.life me.0.part.pen
      → Allows (IsKept l traced w begin holds) slots id me (life_at t) (λ _. 1) (λ _. fork_life_records (step slots (life_at t) 1 0 none) me 1)
  fork_life_at slots id t me kind child out may s r wide at small =
      let v = me.0 in let n = v.number in let p = v.part in
      let own : FitsAs l.version l.threads r.given w begin r.all r.seat_of id v Member = subst (FitsAs l.version l.threads r.given w begin r.all r.seat_of id v) kind (r.fits id v at) in
      let right : ChildFits l.version l.threads r.given w begin r.all r.seat_of id v (May t) = subst (ChildFits l.version l.threads r.given w begin r.all r.seat_of id v) child own.child in
      let low : t < most_threads = let few = r.core.sizes.few in let there = at_within r.all t (unborn l.version (Some (begin w t))) right.3 in omega arith in
      let f = forks-of l traced w holds n t p (Some (begin w t)) s.words s.homes r.all r.core own.own right.3 right.1 out may in
      let log : List Event = (p.seen ++ f.between) ++ fork_event n t ∷ [] in
      let q : Part T H = recorded p (p.seen ++ f.between) (fork_event n t) in
      let new : Part T H = newborn l.version log (Some (begin w t)) in
      let v' : View T H W = record v { part = q; child = Forked t log } in
      let all' : List (Part T H) = set r.all n q in
      let now : get_elem? (set all' t new) n ≡ some q = set_else all' t n new (λ e. right.1 (sym e)) ∙ set_here r.all n q (at_within r.all n p own.own) in
      let forked : get_elem? (set all' t new) t ≡ some new = set_here all' t new (subst (λ (y : ℕ). t < y) (sym (length-set r.all n q)) (at_within r.all t (unborn l.version (Some (begin w t))) right.3)) in (
        v',
        keeps,
        tt,
        record {
          all = set all' t new;
          seat_of = r.seat_of;
          given = r.given;
          seated = subst (λ (z : ℕ). 0 < z) (sym (length-set s.views id v')) r.seated;
          fits = λ j u e. ⊎_elim
              (λ (h : (j ≡ id) × (v' ≡ u)). subst (λ (z : ℕ × View T H W). SeatFits l.version l.threads r.given w begin (set all' t new) r.seat_of z.0 z.1) (λ k. (sym h.0 k, h.1 k))
              (subst (FitsAs l.version l.threads r.given w begin (set all' t new) r.seat_of id v') (sym kind) record { world = own.world; later = own.later; given_out = own.given_out; sits = own.sits; own = now; child = (right.0, right.1, right.2, forked); idle = idle-live p q (Forked t log) may.0 refl (λ dead. absurd (dead may.0)) }))
              (λ (h : (j ≢ id) × (get_elem? s.views j ≡ some u)). others_fit l.version l.threads r.given w begin all' r.seat_of t new id j own.later right.0 h.0 u u.kind
              (others_fit l.version l.threads r.given w begin r.all r.seat_of n q id j own.later own.sits h.0 u u.kind (r.fits j u h.1)))
              (at_set s.views id j v' u e);
          placed = λ k lo. placed-set s.views id (r.seat_of k) k v v' Member Member at kind kind (⊎_elim (λ (is : n ≡ k). inl is) (λ (is : IsOfChild v.child k). inr (subst (λ (x : Child). IsOfChild x k) child is))) (r.placed k lo);
          core = f.core;
        },
        λ k few is. let same : t ≡ k = thread-of t k low few (omega arith) in
            subst (λ (k : ℕ). (k ≢ n) × (between : List Event) × Grows n p between (fork_event n k)
            × ((let y : Me (Slot T) (View T H W) = (v', me.1) in y) ≡ (record v { part = recorded p (p.seen ++ between) (fork_event n k); child = Forked k ((p.seen ++ between) ++ fork_event n k ∷ []) }, me.1))) same (right.1, f.between, f.grows, refl),
      )

  -- the same at a word that is this place
  pub fork_life_keeps : (slots id t : ℕ) (me : Me (Slot T) (View T H W)) (i : ℕ) → i ≡ life_at t → me.0.kind ≡ Member → me.0.child ≡ May t → me.0.part.wait ≡ None → MayRecord traced me.0.part.life me.0.part.pen
      → Allows (IsKept l traced w begin holds) slots id me i (λ _. 1) (λ _. fork_life_records (step slots i 1 0 none) me 1)
  fork_life_keeps slots id t me i word kind child out may = subst (λ (i : ℕ). Allows (IsKept l traced w begin holds) slots id me i (λ _. 1) (λ _. fork_life_records (step slots i 1 0 none) me 1)) (sym word) (fork_life_at slots id t me kind child out may)

module _ {T H W : Type 0} where
  -- a thread that forked another is one still
  pub fit_forked : (z z' : TableId) (n : ℕ) (hand : List ℕ) (me me' : Sat T H W) (q : Part T H) (child : Child) {kept : List T} {room : ℕ} → z' ≡ z → me' ≡ (record me.0 { part = q; child = child }, me.1) → IsThread z n hand (with_part me.0 q, me.1) kept room → IsThread z' n hand me' kept room
  fit_forked z z' n hand me me' q child {kept} {room} ez em f = subst (λ (t : TableId × Sat T H W). IsThread t.0 n hand t.1 kept room) (λ i. (sym ez i, sym em i))
      record { member = f.member; numbered = f.numbered; keyed = f.keyed; distinct = f.distinct; below = f.below; wide = f.wide; hands = f.hands; bare = f.bare; roomy = f.roomy; few = f.few }
