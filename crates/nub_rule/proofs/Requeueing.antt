-- The steps that change a queue, whatever each tells, and what each kind of them needs for that.
use Rattle.std.proofs.Common.{Bool, ◌≡◌, ◌⊎◌, inl, inr, ℕ, ◌<◌, List, [], ◌∷◌, ◌++◌, length, refl, sym, ap, ◌∙◌, subst, arith, append-nil, Some, None, true, false}
use Rattle.std.specs.Prelude.{Option as Opt}
use mathlib.Core.Option.{none}
use Rattle.larch_actions.specs.declared.event.Layout.{Layout}
use Rattle.larch_actions.specs.Layout.{IsLawful}
use Rattle.larch_actions.specs.Sets.{mem, without}
use Rattle.atomic_table.specs.Table.{Step, State, step, rest, Allows}
use Rattle.atomic_table.specs.Seated.{TableId}
use Rattle.larch_actions.specs.declared.event.MutexId.{MutexId}
use Rattle.larch_actions.specs.declared.event.SemId.{SemId}
use Rattle.larch_actions.specs.declared.event.ThreadId.{ThreadId}
use Rattle.nub_rule.specs.declared.object.Object.{Object}
use Rattle.nub_rule.specs.declared.object.Object.TheVariants.{Mutex, Sem, Cond}
use Rattle.nub_rule.specs.declared.package.Entry.{Entry}
use Rattle.nub_rule.specs.declared.rule.About.{About}
use Rattle.nub_rule.specs.declared.rule.Slot.{Slot}
use Rattle.nub_rule.specs.declared.rule.Slot.TheVariants.{Queue}
use Rattle.nub_rule.specs.declared.view.Part.{Part}
use Rattle.nub_rule.specs.declared.view.Stage.TheVariants.{Pushed, Tested}
use Rattle.nub_rule.specs.declared.view.Stand.{Stand}
use Rattle.nub_rule.specs.declared.view.View.{View}
use Rattle.nub_rule.specs.declared.view.Wait.{Wait}
use Rattle.nub_rule.specs.Items.{queue_of}
use Rattle.nub_rule.specs.Known.{Known, Shape, Space, MayPop, MayPush, known_as, shape_of, IsThread}
use Rattle.nub_rule.specs.Objects.{object_of, HasObject, IsCond, IsGate}
use Rattle.nub_rule.specs.Parts.{left_turns}
use Rattle.nub_rule.specs.Places.{cond_object, sem_object, length_at, most_threads, queue_at}
use Rattle.nub_rule.specs.Plays.{Sat, tail_of, front, less, unread, recounted, push_gate_records, push_cond_records, pop_gate_records, pop_cond_records, take_out_records, leave_cond_queue_records, leave_sem_queue_records}
use Rattle.nub_rule.specs.Queued.{MayRequeue, Requeued}
use Rattle.nub_rule.specs.Rule.{IsKept}
use Rattle.nub_rule.proofs.AlertSteps.{leave_sem_queue_keeps}
use Rattle.nub_rule.proofs.AtHand.{After, QueueAtHand, requeued}
use Rattle.nub_rule.proofs.CondQueue.{push_cond_keeps, pop_cond_keeps, leave_cond_queue_keeps}
use Rattle.nub_rule.proofs.Lessening.{front-of, front-none}
use Rattle.nub_rule.proofs.Naming.{gate_below, some_or_none}
use Rattle.nub_rule.proofs.QueueSteps.{push_gate_keeps, pop_gate_keeps, take_out_keeps}

pub gate_at : (at : Object) → ((m : MutexId) × (at ≡ Mutex m)) ⊎ ((s : SemId) × (at ≡ Sem s)) → IsGate at
gate_at at (inl x) = subst IsGate (sym x.1) tt
gate_at at (inr x) = subst IsGate (sym x.1) tt

pub no_cond : (at : Object) → IsGate at → IsCond at → ⊥
no_cond (Mutex m) gate is = is
no_cond (Sem s) gate is = is
no_cond (Cond c) gate is = gate

module _ {T H W : Type 0} where
  -- what the caller showed of what contracts see, as facts of the fields
  module _ {records : Step (Slot T) → Sat T H W → ℕ → Sat T H W → Type 0} {begin : W → ℕ → H} {holds : W → List T → List H → Type 0} {z z' : TableId} {key : About W} {s : Shape W} {n : ℕ} {es : List Entry} {lo : Space} {nx : ℕ} {k : Known T H W} {o o' : ℕ} (me : Sat T H W) (v : shape_of z key ≡ s) (w : known_as z' n me es lo nx ≡ k) (q : o ≡ o') where
    pub push_shown : MayRequeue (IsKept s.layout s.traced s.world begin holds) records s.layout k o' (k.queue ++ k.number ∷ []) ⊥
        → MayRequeue (IsKept key.layout key.traced key.world.value begin holds) records key.layout (known_as z' n me es lo nx) o (me.0.part.queue ++ n ∷ []) ⊥
    push_shown = subst (λ (x : Shape W × Known T H W × ℕ). MayRequeue (IsKept x.0.layout x.0.traced x.0.world begin holds) records x.0.layout x.1 x.2 (x.1.queue ++ x.1.number ∷ []) ⊥) (λ j. (sym v j, sym w j, sym q j))

    pub pop_shown : MayRequeue (IsKept s.layout s.traced s.world begin holds) records s.layout k o' (tail_of k.queue) (k.stand ≡ None)
        → MayRequeue (IsKept key.layout key.traced key.world.value begin holds) records key.layout (known_as z' n me es lo nx) o (tail_of me.0.part.queue) (me.0.part.stand ≡ None)
    pop_shown = subst (λ (x : Shape W × Known T H W × ℕ). MayRequeue (IsKept x.0.layout x.0.traced x.0.world begin holds) records x.0.layout x.1 x.2 (tail_of x.1.queue) (x.1.stand ≡ None)) (λ j. (sym v j, sym w j, sym q j))

    pub leave_shown : (mem k.number k.queue ≡ true → MayRequeue (IsKept s.layout s.traced s.world begin holds) records s.layout k o' (less k.number k.queue) (Unit {0}))
        → mem n me.0.part.queue ≡ true → MayRequeue (IsKept key.layout key.traced key.world.value begin holds) records key.layout (known_as z' n me es lo nx) o (less n me.0.part.queue) (Unit {0})
    leave_shown = subst (λ (x : Shape W × Known T H W × ℕ). mem x.1.number x.1.queue ≡ true → MayRequeue (IsKept x.0.layout x.0.traced x.0.world begin holds) records x.0.layout x.1 x.2 (less x.1.number x.1.queue) (Unit {0})) (λ j. (sym v j, sym w j, sym q j))

  module _ {rule : State (Slot T) (View T H W) → Type 0} {records : Step (Slot T) → Sat T H W → ℕ → Sat T H W → Type 0} {l : Layout} {z : TableId} {n : ℕ} {me : Sat T H W} {es : List Entry} {lo : Space} {nx : ℕ} {o : ℕ} {zs : List ℕ} {nowhere : Type 0} (m : MayRequeue rule records l (known_as z n me es lo nx) o zs nowhere) where
    -- the length word may be written
    pub may_write : (hand hand' : List ℕ) (front : Sat T H W) {kept : List T} {room : ℕ} (slots id i r : ℕ) (xs : List (ℕ × Slot T)) → IsThread z n hand me kept room → QueueAtHand me front hand' o → IsLawful l → i ≡ length_at o → r ≡ length zs
        → Allows rule slots id (front.0, xs) i (λ _. r) (λ _. records (step slots i r 0 none) (front.0, xs) r)
    may_write hand hand' front slots id i r xs t at law word long = subst (λ (x : ℕ × ℕ). Allows rule slots id (front.0, xs) x.0 (λ _. x.1) (λ _. records (step slots x.0 x.1 0 none) (front.0, xs) x.1)) (λ j. (sym word j, sym long j))
        (m.allowed law slots id (front.0, xs) (ap (λ v. v.kind) at.same ∙ t.member) (ap (λ v. v.number) at.same ∙ t.numbered) (ap (λ v. v.part) at.same))

    -- the thread is one still after the step
    pub written : (s : Slot T) (z' : TableId) (hand hand' : List ℕ) (front me' : Sat T H W) {kept : List T} {room : ℕ} (st : Step (Slot T)) (r : ℕ) → IsThread z n hand me kept room → QueueAtHand me front hand' o → z' ≡ z → s ≡ Queue (queue_of zs)
        → records st (front.0, (queue_at o, s) ∷ rest front.1) r me' → st.word ≡ length_at o → (nowhere → length zs < most_threads) → After m.change (λ vs. vs) z z' n hand' me me' kept room
    written s z' hand hand' front me' st r t at ez is recorded word few = requeued m.change zs s z z' n hand hand' me front me' o t at ez is (m.recorded st (front.0, (queue_at o, s) ∷ rest front.1) r me' word recorded) m.held m.spin m.queue (λ e. few (m.stand e))

  module _ {l : Layout} {traced : Bool} {w : W} {begin : W → ℕ → H} {holds : W → List T → List H → Type 0} (k : Known T H W) where
    pub may_push_gate : (at : Object) → IsGate at → HasObject l at → k.spin ≡ Some (object_of at) → k.stand ≡ None → MayRequeue (IsKept l traced w begin holds) push_gate_records l k (object_of at) (k.queue ++ k.number ∷ []) ⊥
    may_push_gate at gate has here out = record {
      allowed = λ law slots id me kind num part. push_gate_keeps _ _ _ _ _ slots id (object_of at) _ me _ refl (gate_below l at law gate has) kind (ap (λ p. p.spin) part ∙ here) (ap (λ p. p.stand) part ∙ out) (λ j. length ((sym part j).queue ++ sym num j ∷ []));
      change = λ n p. record p { queue = p.queue ++ n ∷ []; left = p.left ++ n ∷ []; stand = Some record { at = object_of at; stage = Pushed } };
      recorded = λ st me r me' word t. t (object_of at) word;
      held = refl;
      spin = refl;
      queue = refl;
      stand = λ e. some_or_none _ _ e refl;
    }

    pub may_push_cond : (at : Object) → IsCond at → HasObject l at → k.spin ≡ Some (object_of at) → k.stand ≡ None → MayPush at k → MayRequeue (IsKept l traced w begin holds) push_cond_records l k (object_of at) (k.queue ++ k.number ∷ []) ⊥
    may_push_cond (Mutex m) is has here out may = absurd is
    may_push_cond (Sem s) is has here out may = absurd is
    may_push_cond (Cond i) is has here out (x, waits, on, stood) = let c = i.0 in record {
      allowed = λ law slots id me kind num part. push_cond_keeps _ _ _ _ _ slots id c _ x me _ refl (let z = law.conditions in omega arith) kind (ap (λ p. p.spin) part ∙ here) (ap (λ p. p.stand) part ∙ out) (ap (λ p. p.wait) part ∙ waits) on (stood ∙ (λ j. Some (sym part j).count)) (λ j. length ((sym part j).queue ++ sym num j ∷ []));
      change = λ n p. record p { queue = p.queue ++ n ∷ []; left = p.left ++ n ∷ []; stand = Some record { at = cond_object c; stage = Tested }; wait = unread p.wait };
      recorded = λ st me r me' word t. t (cond_object c) word;
      held = refl;
      spin = refl;
      queue = refl;
      stand = λ e. some_or_none _ _ e refl;
    }

    pub may_pop_gate : (at : Object) → IsGate at → HasObject l at → k.spin ≡ Some (object_of at) → MayRequeue (IsKept l traced w begin holds) pop_gate_records l k (object_of at) (tail_of k.queue) (k.stand ≡ None)
    may_pop_gate at gate has here = record {
      allowed = λ law slots id me kind num part. pop_gate_keeps _ _ _ _ _ slots id (object_of at) _ me _ refl (gate_below l at law gate has) kind (ap (λ p. p.spin) part ∙ here) (λ j. length (tail_of (sym part j).queue));
      change = λ n p. record p { queue = tail_of p.queue; owed = p.owed ++ front p.queue; left = tail_of p.left; cleared = without (object_of at) p.cleared; looked = without (object_of at) p.looked };
      recorded = λ st me r me' word t. t (object_of at) word;
      held = refl;
      spin = refl;
      queue = refl;
      stand = λ e. e;
    }

    pub may_pop_cond : (at : Object) → IsCond at → HasObject l at → k.spin ≡ Some (object_of at) → MayPop at k → MayRequeue (IsKept l traced w begin holds) pop_cond_records l k (object_of at) (tail_of k.queue) (k.stand ≡ None)
    may_pop_cond (Mutex m) is has here may = absurd is
    may_pop_cond (Sem s) is has here may = absurd is
    may_pop_cond (Cond i) is has here (out, taken) = let c = i.0 in record {
      allowed = λ law slots id me kind num part. pop_cond_keeps _ _ _ _ _ slots id c _ me _ refl (let z = law.conditions in omega arith) kind (ap (λ p. p.spin) part ∙ here) (ap (λ p. p.wait) part ∙ out) (subst (λ (p : Part T H). (t : ℕ) → mem t (tail_of p.queue) ≡ false → mem t p.left ≡ false) (sym part) taken) (λ j. length (tail_of (sym part j).queue));
      change = λ n p. record p { queue = tail_of p.queue; owed = p.owed ++ front p.queue };
      recorded = λ st me r me' word t. t;
      held = refl;
      spin = refl;
      queue = refl;
      stand = λ e. e;
    }

    pub may_take_out : (at : Object) (s : Stand) → IsGate at → HasObject l at → k.spin ≡ Some (object_of at) → mem k.number k.queue ≡ true → MayRequeue (IsKept l traced w begin holds) take_out_records l k (object_of at) (less k.number k.queue) (Unit {0})
    may_take_out at s gate has here there = record {
      allowed = λ law slots id me kind num part. take_out_keeps _ _ _ _ _ slots id (object_of at) _ me s _ refl (gate_below l at law gate has) kind (ap (λ p. p.spin) part ∙ here) ((λ j. mem (num j) (part j).queue) ∙ there) (λ j. length (less (sym num j) (sym part j).queue));
      change = λ n p. record p { queue = less n p.queue; left = less n p.left; stand = None; turns = object_of at ∷ p.turns };
      recorded = λ st me r me' word t. t (object_of at) word;
      held = refl;
      spin = refl;
      queue = refl;
      stand = λ e. tt;
    }

    pub may_leave_cond_queue : (c : ℕ) (x : Wait) → (IsLawful l → c < 64) → k.spin ≡ Some (cond_object c) → k.wait ≡ Some x → x.cond.0 ≡ c → mem k.number k.queue ≡ true → MayRequeue (IsKept l traced w begin holds) leave_cond_queue_records l k (cond_object c) (less k.number k.queue) (Unit {0})
    may_leave_cond_queue c x low here waits on there = record {
      allowed = λ law slots id me kind num part. leave_cond_queue_keeps _ _ _ _ _ slots id c _ x me _ refl (low law) kind (ap (λ p. p.spin) part ∙ here) (ap (λ p. p.wait) part ∙ waits) on ((λ j. mem (num j) (part j).queue) ∙ there) (λ j. length (less (sym num j) (sym part j).queue));
      change = λ n p. record p { queue = less n p.queue; left = less n p.left; stand = None; wait = recounted p.count p.wait };
      recorded = λ st me r me' word t. t;
      held = refl;
      spin = refl;
      queue = refl;
      stand = λ e. tt;
    }

    pub may_leave_sem_queue : (s : ℕ) (x : Stand) → (IsLawful l → sem_object s < 128) → k.spin ≡ Some (sem_object s) → k.stand ≡ Some x → x.at ≡ sem_object s → mem k.number k.queue ≡ true → MayRequeue (IsKept l traced w begin holds) leave_sem_queue_records l k (sem_object s) (less k.number k.queue) (Unit {0})
    may_leave_sem_queue s x low here stood on there = record {
      allowed = λ law slots id me kind num part. leave_sem_queue_keeps _ _ _ _ _ slots id (sem_object s) _ me x _ refl (low law) kind (ap (λ p. p.spin) part ∙ here) (ap (λ p. p.stand) part ∙ stood) on ((λ j. mem (num j) (part j).queue) ∙ there) (λ j. length (less (sym num j) (sym part j).queue));
      change = λ n p. record p { queue = less n p.queue; left = less n p.left; stand = None; turns = left_turns p.stand p.turns };
      recorded = λ st me r me' word t. t;
      held = refl;
      spin = refl;
      queue = refl;
      stand = λ e. tt;
    }

  -- what a pop says of whom it took
  pub record Popped (r : Opt ThreadId) (k b : Known T H W) : Type 0 where
    pub none : r ≡ None → k.queue ≡ []
    pub owes : r ≡ None → b.owed ≡ k.owed
    pub first : (t : ThreadId) → r ≡ Some t → (k.queue ≡ t.0 ∷ tail_of k.queue) × (b.owed ≡ k.owed ++ t.0 ∷ [])

  popped : (r : Opt ThreadId) (k b : Known T H W) → (r ≡ None → k.queue ≡ []) → ((t : ThreadId) → r ≡ Some t → k.queue ≡ t.0 ∷ tail_of k.queue) → b.owed ≡ k.owed ++ front k.queue → Popped r k b
  popped r k b empty first owed = record {
    none = empty;
    owes = λ e. owed ∙ ((λ j. k.owed ++ front-none k.queue (empty e) j) ∙ append-nil k.owed);
    first = λ t e. (first t e, owed ∙ (λ j. k.owed ++ front-of k.queue t.0 (first t e) j));
  }

  module _ (at : Object) (r : Opt ThreadId) (k b : Known T H W) where
    gate_out : Requeued pop_gate_records (object_of at) k b → b ≡ record k { part = record k.part { queue = tail_of k.queue; owed = k.owed ++ front k.queue; left = tail_of k.left; cleared = without (object_of at) k.cleared; looked = without (object_of at) k.looked } }
    gate_out u = u (λ n p. record p { queue = tail_of p.queue; owed = p.owed ++ front p.queue; left = tail_of p.left; cleared = without (object_of at) p.cleared; looked = without (object_of at) p.looked }) (λ st me r me' word t. t (object_of at) word)

    cond_out : Requeued pop_cond_records (object_of at) k b → b ≡ record k { part = record k.part { queue = tail_of k.queue; owed = k.owed ++ front k.queue } }
    cond_out u = u (λ n p. record p { queue = tail_of p.queue; owed = p.owed ++ front p.queue }) (λ st me r me' word t. t)

    pub gate_popped : (r ≡ None → k.queue ≡ []) × ((t : ThreadId) → r ≡ Some t → k.queue ≡ t.0 ∷ tail_of k.queue) × Requeued pop_gate_records (object_of at) k b
        → Popped r k b × (b ≡ record k { part = record k.part { queue = tail_of k.queue; left = tail_of k.left; owed = b.owed; cleared = without (object_of at) k.cleared; looked = without (object_of at) k.looked } })
    gate_popped u = let e = gate_out u.2 in (popped r k b u.0 u.1 (ap (λ x. x.owed) e), subst (λ b. b ≡ record k { part = record k.part { queue = tail_of k.queue; left = tail_of k.left; owed = b.owed; cleared = without (object_of at) k.cleared; looked = without (object_of at) k.looked } }) (sym e) refl)

    pub cond_popped : (r ≡ None → k.queue ≡ []) × ((t : ThreadId) → r ≡ Some t → k.queue ≡ t.0 ∷ tail_of k.queue) × Requeued pop_cond_records (object_of at) k b
        → Popped r k b × (b ≡ record k { part = record k.part { queue = tail_of k.queue; owed = b.owed } })
    cond_popped u = let e = cond_out u.2 in (popped r k b u.0 u.1 (ap (λ x. x.owed) e), subst (λ b. b ≡ record k { part = record k.part { queue = tail_of k.queue; owed = b.owed } }) (sym e) refl)
