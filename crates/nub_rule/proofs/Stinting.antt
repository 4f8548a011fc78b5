-- Stints: a step that enters none, the begin of a wait, and the clearing of a bit keep the values along the history.
use Rattle.std.proofs.Common.{Bool, true, false, cond, eqb, ◌≡◌, ◌≢◌, ℕ, List, [], ◌∷◌, ◌++◌, map, set, refl, sym, ap, ◌∙◌, subst, subst₂, append-nil, eq-eqb, ne_eqb, Some, None}
use Rattle.std.proofs.lemmas.List.{map-append}
use Rattle.std.proofs.lemmas.List.Elements.{filter-append}
use Rattle.std.specs.Prelude.{Option as Opt, filter}
use mathlib.Core.Logic.{dite}
use mathlib.Core.Option.{Option, some, none, some-injective, some-ne-none}
use native.Mathlib.Decide.{ℕ_discrete}
use lib.ListN.{get_elem?}
use Rattle.larch_actions.specs.declared.event.Event.{Event}
use Rattle.larch_actions.specs.declared.event.Action.{Action}
use Rattle.larch_actions.specs.declared.event.Action.TheVariants.{Resume, AlertReturn}
use Rattle.larch_actions.specs.Actions.{put}
use Rattle.nub_rule.specs.declared.view.Part.{Part}
use Rattle.nub_rule.specs.declared.view.Stint.{Stint}
use Rattle.nub_rule.specs.declared.view.Wait.{Wait}
use Rattle.nub_rule.specs.Parts.{closing_on, is_closing, waits_on}
use Rattle.nub_rule.specs.Plays.{enqueue_event, recounted, taken_action, unread}
use Rattle.larch_actions.specs.Takers.{gives, givers}
use Rattle.nub_rule.specs.Stints.{AreInTurn, Stinted, StintedToEnd, StintsLead, stinters, stints_at, stints_by}
use Rattle.atomic_table.proofs.Lists.{set_here, set_else}
use Rattle.nub_rule.proofs.Each.{at_within, each-set, put-at, put-else}

-- an action that gives no mutex back
abbrev pub GivesNone : Action → Type 0
GivesNone a = (m : ℕ) → gives m a ≡ false

givers-snoc : (m : ℕ) (log : List Event) (e : Event) → givers m (log ++ e ∷ []) ≡ givers m log ++ givers m (e ∷ [])
givers-snoc m log e = ap (map (λ (e : Event). e.thread.0)) (filter-append (λ (e : Event). gives m e.action) log (e ∷ [])) ∙ map-append (λ (e : Event). e.thread.0) (filter (λ (e : Event). gives m e.action) log) (filter (λ (e : Event). gives m e.action) (e ∷ []))

pub givers-other : (m : ℕ) (log : List Event) (e : Event) → gives m e.action ≡ false → givers m (log ++ e ∷ []) ≡ givers m log
givers-other m log e out = givers-snoc m log e ∙ (ap (λ (b : Bool). givers m log ++ map (λ (e : Event). e.thread.0) (cond b (e ∷ []) [])) out ∙ append-nil (givers m log))

pub givers-own : (m : ℕ) (log : List Event) (e : Event) → gives m e.action ≡ true → givers m (log ++ e ∷ []) ≡ givers m log ++ e.thread.0 ∷ []
givers-own m log e own = givers-snoc m log e ∙ ap (λ (b : Bool). givers m log ++ map (λ (e : Event). e.thread.0) (cond b (e ∷ []) [])) own

-- what the action of a taken bit and the first event of a wait give back
pub taken-gives : (m : ℕ) (o : Opt Wait) → GivesNone (taken_action m o)
taken-gives m None j = refl
taken-gives m (Some w) j = elim w.alertable as (λ b. gives j (cond b (AlertReturn w.mutex w.cond) (Resume w.mutex w.cond)) ≡ false) [ true ↦ refl | false ↦ refl ]

pub begun-gives : (alertable : Bool) (n m c j : ℕ) → gives j (enqueue_event alertable n m c).action ≡ eqb m j
begun-gives true n m c j = refl
begun-gives false n m c j = refl

-- where a thread has yet to clear a bit
pub closing-waits : (o : Opt Wait) (m : ℕ) → waits_on o m ≡ false → closing_on o m ≡ false
closing-waits None m out = refl
closing-waits (Some w) m out = elim (is_closing w.bit) as (λ b. cond b (eqb w.mutex.0 m) false ≡ false) [ true ↦ out | false ↦ refl ]

-- a thread waits on one mutex
pub closing-else : (o : Opt Wait) (w : Wait) (m : ℕ) → o ≡ Some w → w.mutex.0 ≡ m → (j : ℕ) → j ≢ m → closing_on o j ≡ false
closing-else o w m is on j ne = ap (λ z. closing_on z j) is ∙ closing-waits (Some w) j (ne_eqb w.mutex.0 j (λ e. ne (sym e ∙ on)))

pub closing-unread : (o : Opt Wait) (m : ℕ) → closing_on (unread o) m ≡ closing_on o m
closing-unread None m = refl
closing-unread (Some w) m = refl

pub closing-recounted : (k : ℕ) (o : Opt Wait) (m : ℕ) → closing_on (recounted k o) m ≡ closing_on o m
closing-recounted k None m = refl
closing-recounted k (Some w) m = refl

module _ {T H : Type 0} where
  stinters-snoc : (m : ℕ) (ss : List (Stint T H)) (s : Stint T H) → stinters m (ss ++ s ∷ []) ≡ stinters m ss ++ stinters m (s ∷ [])
  stinters-snoc m ss s = ap (map (λ (s : Stint T H). s.thread)) (filter-append (λ (s : Stint T H). eqb s.mutex m) ss (s ∷ [])) ∙ map-append (λ (s : Stint T H). s.thread) (stints_at m ss) (stints_at m (s ∷ []))

  -- one stint more leads on
  lead-snoc : (holds : List T → List H → Type 0) (xs : List T) (hs : List H) (ss : List (Stint T H)) (ys : List T) (rs : List H) (s : Stint T H) → StintsLead holds xs hs ss ys rs → get_elem? ys s.mutex ≡ some s.got → get_elem? rs s.thread ≡ some s.before → holds (set ys s.mutex s.left) (set rs s.thread s.after)
      → StintsLead holds xs hs (ss ++ s ∷ []) (set ys s.mutex s.left) (set rs s.thread s.after)
  lead-snoc holds xs hs [] ys rs s k got before kept = (k.0, ap (λ l. get_elem? l s.mutex) k.1 ∙ got, ap (λ l. get_elem? l s.thread) k.2 ∙ before, (subst₂ holds (λ i. set (sym k.1 i) s.mutex s.left) (λ i. set (sym k.2 i) s.thread s.after) kept, (λ i. set (k.1 i) s.mutex s.left), λ i. set (k.2 i) s.thread s.after))
  lead-snoc holds xs hs (t ∷ ss) ys rs s k got before kept = (k.0, k.1, k.2, lead-snoc holds (set xs t.mutex t.left) (set hs t.thread t.after) ss ys rs s k.3 got before kept)

  -- the stints of the thread n, and one more with the mutex m
  abbrev pub with_stint : Part T H → ℕ → ℕ → T → T → H → H → List (Stint T H)
  with_stint p n m x y s u = p.stints ++ record { thread = n; mutex = m; got = x; left = y; before = s; after = u } ∷ []

  module _ {holds : List T → List H → Type 0} {log : List Event} {owner : ℕ → Option ℕ} {values : List T} {shares : List H} (all : List (Part T H)) (n : ℕ) (p q : Part T H) (at : get_elem? all n ≡ some p) where
    -- a step of the thread n: what is left to show is its own part of the item
    stinted-step : (k : Stinted holds log owner values shares all) (log' : List Event) (owner' : ℕ → Option ℕ) (values' : List T) (shares' : List H) (stints : List (Stint T H)) (closing : ℕ → List ℕ) → StintsLead holds k.first k.first_shares stints values' shares'
        → stints_by n stints ≡ q.stints → ((j : ℕ) → j ≢ n → stints_by j stints ≡ stints_by j k.stints) → ((m : ℕ) → givers m log' ≡ stinters m stints ++ closing m) → ((m : ℕ) → owner' m ≡ none → closing m ≡ []) → ((m : ℕ) → owner' m ≡ some n → closing m ≡ cond (closing_on q.wait m) (n ∷ []) [])
        → ((m j : ℕ) → j ≢ n → owner' m ≡ some j → (owner m ≡ some j) × (closing m ≡ k.closing m)) → Stinted holds log' owner' values' shares' (set all n q)
    stinted-step k log' owner' values' shares' stints closing lead own others given free closes rest = record {
      first = k.first;
      first_shares = k.first_shares;
      stints = stints;
      closing = closing;
      lead = lead;
      own = each-set (λ j r. stints_by j k.stints ≡ r.stints) (λ j r. stints_by j stints ≡ r.stints) all n q own (λ j r ne at' is. others j ne ∙ is) k.own;
      gives = given;
      free = free;
      closes = each-set (λ j r. (m : ℕ) → owner m ≡ some j → k.closing m ≡ cond (closing_on r.wait m) (j ∷ []) []) (λ j r. (m : ℕ) → owner' m ≡ some j → closing m ≡ cond (closing_on r.wait m) (j ∷ []) []) all n q closes
          (λ j r ne at' u m is. let t = rest m j ne is in t.1 ∙ u m t.0) k.closes;
    }

    -- who has given back the mutex m, which the thread n has
    pub given : (m : ℕ) (b : Bool) (k : Stinted holds log owner values shares all) → owner m ≡ some n → closing_on p.wait m ≡ b → givers m log ≡ stinters m k.stints ++ cond b (n ∷ []) []
    given m b k own is = k.gives m ∙ ap (λ l. stinters m k.stints ++ l) (k.closes n p at m own ∙ ap (λ b. cond b (n ∷ []) []) is)

    -- a step that enters no stint and gives nothing back
    pub stinted-frame : (log' : List Event) → ((m : ℕ) → givers m log' ≡ givers m log) → q.stints ≡ p.stints → ((m : ℕ) → closing_on q.wait m ≡ closing_on p.wait m) → Stinted holds log owner values shares all → Stinted holds log' owner values shares (set all n q)
    stinted-frame log' same stints wait k = stinted-step k log' owner values shares k.stints k.closing k.lead (k.own n p at ∙ sym stints) (λ j ne. refl) (λ m. same m ∙ k.gives m) k.free (λ m is. k.closes n p at m is ∙ ap (λ b. cond b (n ∷ []) []) (sym (wait m))) (λ m j ne is. (is, refl))

    -- an event that gives nothing back
    pub stinted-event : (e : Event) → GivesNone e.action → q.stints ≡ p.stints → ((m : ℕ) → closing_on q.wait m ≡ closing_on p.wait m) → Stinted holds log owner values shares all → Stinted holds (log ++ e ∷ []) owner values shares (set all n q)
    stinted-event e none_given = stinted-frame (log ++ e ∷ []) (λ m. givers-other m log e (none_given m))

    -- the thread n takes the mutex m, which nobody has
    pub stinted-takes : (m : ℕ) (log' : List Event) → owner m ≡ none → ((j : ℕ) → givers j log' ≡ givers j log) → q.stints ≡ p.stints → ((j : ℕ) → closing_on q.wait j ≡ false) → ((j : ℕ) → j ≢ m → closing_on p.wait j ≡ false) → Stinted holds log owner values shares all → Stinted holds log' (put owner m (some n)) values shares (set all n q)
    stinted-takes m log' unowned same stints after before k = stinted-step k log' (put owner m (some n)) values shares k.stints k.closing k.lead (k.own n p at ∙ sym stints) (λ j ne. refl) (λ j. same j ∙ k.gives j)
        (λ j is. dite (ℕ_discrete j m) (λ e. absurd (some-ne-none n (sym (put-at owner m (some n) j e) ∙ is))) (λ ne. k.free j (sym (put-else owner m j (some n) ne) ∙ is)))
        (λ j is. dite (ℕ_discrete j m)
        (λ e. k.free j (ap owner e ∙ unowned) ∙ ap (λ b. cond b (n ∷ []) []) (sym (after j)))
        (λ ne. k.closes n p at j (sym (put-else owner m j (some n) ne) ∙ is) ∙ ap (λ b. cond b (n ∷ []) []) (before j ne ∙ sym (after j))))
        (λ j i ne is. dite (ℕ_discrete j m) (λ e. absurd (ne (some-injective i n (sym is ∙ put-at owner m (some n) j e)))) (λ other. (sym (put-else owner m j (some n) other) ∙ is, refl)))

    -- the thread n, which has the mutex m, begins a wait on it
    pub stinted-begins : (m : ℕ) (log' : List Event) → owner m ≡ some n → givers m log' ≡ givers m log ++ n ∷ [] → ((j : ℕ) → j ≢ m → givers j log' ≡ givers j log) → q.stints ≡ p.stints → ((j : ℕ) → closing_on p.wait j ≡ false) → closing_on q.wait m ≡ true → ((j : ℕ) → j ≢ m → closing_on q.wait j ≡ false)
        → Stinted holds log owner values shares all → Stinted holds log' owner values shares (set all n q)
    stinted-begins m log' own gave same stints before here there k = let new : ℕ → List ℕ = put k.closing m (n ∷ []) in
        stinted-step k log' owner values shares k.stints new k.lead (k.own n p at ∙ sym stints) (λ j ne. refl)
        (λ j. dite (ℕ_discrete j m)
        (λ e. ap (λ i. givers i log') e ∙ (gave ∙ (ap (λ l. l ++ n ∷ []) (given m false k own (before m) ∙ append-nil (stinters m k.stints)) ∙ (λ i. stinters (sym e i) k.stints ++ n ∷ []) ∙ ap (λ l. stinters j k.stints ++ l) (sym (put-at k.closing m (n ∷ []) j e)))))
        (λ ne. same j ne ∙ (k.gives j ∙ ap (λ l. stinters j k.stints ++ l) (sym (put-else k.closing m j (n ∷ []) ne)))))
        (λ j is. dite (ℕ_discrete j m) (λ e. absurd (some-ne-none n (sym (ap owner e ∙ own) ∙ is))) (λ ne. put-else k.closing m j (n ∷ []) ne ∙ k.free j is))
        (λ j is. dite (ℕ_discrete j m)
        (λ e. put-at k.closing m (n ∷ []) j e ∙ ap (λ b. cond b (n ∷ []) []) (sym (ap (closing_on q.wait) e ∙ here)))
        (λ ne. put-else k.closing m j (n ∷ []) ne ∙ (k.closes n p at j is ∙ ap (λ b. cond b (n ∷ []) []) (before j ∙ sym (there j ne)))))
        (λ j i ne is. (is, dite (ℕ_discrete j m) (λ e. absurd (ne (some-injective i n (sym is ∙ (ap owner e ∙ own))))) (λ other. put-else k.closing m j (n ∷ []) other)))

    -- the thread n clears the bit of the mutex m, and enters the stint with which that ends
    pub stinted-gives : (m : ℕ) (log' : List Event) (got left : T) (before after : H) (k : Stinted holds log owner values shares all) → owner m ≡ some n → get_elem? values m ≡ some got → get_elem? shares n ≡ some before → holds (set values m left) (set shares n after)
        → q.stints ≡ with_stint p n m got left before after → givers m log' ≡ stinters m k.stints ++ n ∷ [] → ((j : ℕ) → j ≢ m → givers j log' ≡ givers j log) → ((j : ℕ) → j ≢ m → closing_on q.wait j ≡ closing_on p.wait j)
        → Stinted holds log' (put owner m none) (set values m left) (set shares n after) (set all n q)
    stinted-gives m log' got left before after k own here there kept stints gave same wait = let s : Stint T H = record { thread = n; mutex = m; got = got; left = left; before = before; after = after } in
        let more : List (Stint T H) = k.stints ++ s ∷ [] in let new : ℕ → List ℕ = put k.closing m [] in
        stinted-step k log' (put owner m none) (set values m left) (set shares n after) more new (lead-snoc holds k.first k.first_shares k.stints values shares s k.lead here there kept)
        (filter-append (λ (s : Stint T H). eqb s.thread n) k.stints (s ∷ []) ∙ (ap (λ b. stints_by n k.stints ++ cond b (s ∷ []) []) (eq-eqb n n refl) ∙ (ap (λ l. l ++ s ∷ []) (k.own n p at) ∙ sym stints)))
        (λ j ne. filter-append (λ (s : Stint T H). eqb s.thread j) k.stints (s ∷ []) ∙ (ap (λ b. stints_by j k.stints ++ cond b (s ∷ []) []) (ne_eqb n j (λ e. ne (sym e))) ∙ append-nil (stints_by j k.stints)))
        (λ j. dite (ℕ_discrete j m)
        (λ e. ap (λ i. givers i log') e ∙ (gave ∙ ((λ i. stinters (sym e i) k.stints ++ n ∷ []) ∙ (ap (λ b. stinters j k.stints ++ map (λ (s : Stint T H). s.thread) (cond b (s ∷ []) [])) (sym (eq-eqb m j (sym e))) ∙ (sym (stinters-snoc j k.stints s) ∙ (sym (append-nil (stinters j more)) ∙ ap (λ l. stinters j more ++ l) (sym (put-at k.closing m [] j e))))))))
        (λ ne. same j ne ∙ (k.gives j ∙ ((λ i. (sym (append-nil (stinters j k.stints)) ∙ ap (λ b. stinters j k.stints ++ map (λ (s : Stint T H). s.thread) (cond b (s ∷ []) [])) (sym (ne_eqb m j (λ e. ne (sym e)))) ∙ sym (stinters-snoc j k.stints s)) i ++ sym (put-else k.closing m j [] ne) i)))))
        (λ j is. dite (ℕ_discrete j m) (λ e. put-at k.closing m [] j e) (λ ne. put-else k.closing m j [] ne ∙ k.free j (sym (put-else owner m j none ne) ∙ is)))
        (λ j is. dite (ℕ_discrete j m) (λ e. absurd (some-ne-none n (sym is ∙ put-at owner m none j e)))
        (λ ne. put-else k.closing m j [] ne ∙ (k.closes n p at j (sym (put-else owner m j none ne) ∙ is) ∙ ap (λ b. cond b (n ∷ []) []) (sym (wait j ne)))))
        (λ j i ne is. dite (ℕ_discrete j m) (λ e. absurd (some-ne-none i (sym is ∙ put-at owner m none j e))) (λ other. (sym (put-else owner m j none other) ∙ is, put-else k.closing m j [] other)))

  pub stinted-end : {holds : List T → List H → Type 0} {log : List Event} {values : List T} {shares : List H} {all : List (Part T H)} (owner : ℕ → Option ℕ) → ((m : ℕ) → owner m ≡ none) → Stinted holds log owner values shares all → StintedToEnd holds log values shares all
  stinted-end owner free k = record { first = k.first; first_shares = k.first_shares; stints = k.stints; lead = k.lead; own = k.own; gives = λ m. k.gives m ∙ (ap (λ l. stinters m k.stints ++ l) (k.free m (free m)) ∙ append-nil (stinters m k.stints)) }

  -- each stint with a mutex got what the one before left
  pub lead-in-turn : (holds : List T → List H → Type 0) (m : ℕ) (xs : List T) (hs : List H) (ss : List (Stint T H)) (ys : List T) (rs : List H) (x y : T) → StintsLead holds xs hs ss ys rs → get_elem? xs m ≡ some x → get_elem? ys m ≡ some y → AreInTurn x (stints_at m ss) y
  lead-in-turn holds m xs hs [] ys rs x y k here there = some-injective x y (sym here ∙ (ap (λ l. get_elem? l m) k.1 ∙ there))
  lead-in-turn holds m xs hs (s ∷ ss) ys rs x y k here there = let xs' : List T = set xs s.mutex s.left in let hs' : List H = set hs s.thread s.after in dite (ℕ_discrete s.mutex m)
      (λ e. subst (λ (b : Bool). AreInTurn x (cond b (s ∷ stints_at m ss) (stints_at m ss)) y) (sym (eq-eqb s.mutex m e))
      (some-injective s.got x (sym k.1 ∙ (ap (get_elem? xs) e ∙ here)), lead-in-turn holds m xs' hs' ss ys rs s.left y k.3 (ap (get_elem? xs') (sym e) ∙ set_here xs s.mutex s.left (at_within xs s.mutex s.got k.1)) there))
      (λ ne. subst (λ (b : Bool). AreInTurn x (cond b (s ∷ stints_at m ss) (stints_at m ss)) y) (sym (ne_eqb s.mutex m ne))
      (lead-in-turn holds m xs' hs' ss ys rs x y k.3 (set_else xs s.mutex m s.left (λ e. ne (sym e)) ∙ here) there))
