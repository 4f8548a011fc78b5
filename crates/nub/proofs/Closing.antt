-- What the threads that a package begins and ends with know.
use Rattle.std.proofs.Common.{◌≡◌, Bool, ℕ, ◌+◌, ◌<◌, ◌≤◌, List, [], ◌∷◌, length, get_or, replicate, map, sym, ap, ◌∙◌, subst, refl, arith, cond, eqb, true, false, suc, zero, Some, None, Option as Opt, inl, inr, ⊎_elim}
use mathlib.Core.Option.{some, some-injective, some-ne-none}
use lib.ListN.{get_elem?}
use Rattle.std.specs.List.{All}
use Rattle.std.proofs.lemmas.List.{length-map, length-replicate}
use Rattle.atomic_table.proofs.Lists.{at_map}
use Rattle.larch_actions.specs.declared.event.Event.{Event}
use Rattle.larch_actions.specs.declared.event.Layout.{Layout}
use Rattle.larch_actions.specs.declared.event.Life.TheVariants.{Live}
use Rattle.larch_actions.specs.declared.event.Version.{Version}
use Rattle.larch_actions.specs.declared.event.Version.TheVariants.{One}
use Rattle.larch_actions.specs.Actions.{by_thread, lives_at_first}
use Rattle.nub_rule.specs.declared.package.Entry.{Entry}
use Rattle.nub_rule.specs.declared.package.Stored.{Stored}
use Rattle.nub_rule.specs.declared.view.Part.{Part}
use Rattle.nub_rule.specs.Ends.{first_known, Leaves}
use Rattle.nub_rule.specs.Items.{Each, HistoryItem, Shared, places_from}
use Rattle.nub_rule.specs.Known.{Known, Shape}
use Rattle.nub.specs.Ended.{IsFirst, IsWhole, KeepsLocks, KeepsStints}
use Rattle.nub.specs.History.{AreStored, entries_from, entries_of}
use Rattle.nub.specs.Rest.{HasStored}
use Rattle.nub_rule.proofs.Stinting.{lead-in-turn}
use Rattle.nub_rule.proofs.Takers.{takers-are}

pub none_there : {A : Type 0} (n m : ℕ) → m < n → get_elem? (replicate {A = Opt A} n None) m ≡ some None
none_there zero m l = absurd (omega arith)
none_there (suc n) zero l = refl
none_there (suc n) (suc m) l = none_there n m (omega arith)

pub none_held : {A : Type 0} (n m : ℕ) (x : A) → get_elem? (replicate {A = Opt A} n None) m ≡ some (Some x) → ⊥
none_held zero m x e = some-ne-none (Some x) (sym e)
none_held (suc n) zero x e = let f = some-injective None (Some x) e in cc
none_held (suc n) (suc m) x e = none_held n m x e

at_get_or : {A : Type 0} (xs : List A) (k : ℕ) (d : A) → k < length xs → get_elem? xs k ≡ some (get_or xs k d)
at_get_or [] k d l = absurd (omega arith)
at_get_or (x ∷ xs) zero d l = refl
at_get_or (x ∷ xs) (suc k) d l = at_get_or xs k d (omega arith)

some_at : {A : Type 0} (xs : List A) (k : ℕ) → k < length xs → (x : A) × (get_elem? xs k ≡ some x)
some_at [] k l = absurd (omega arith)
some_at (x ∷ xs) zero l = (x, refl)
some_at (x ∷ xs) (suc k) l = some_at xs k (omega arith)

abbrev entry : ℕ → Event → Entry
entry k e = record { number = k; event = e }

-- entries are the same where their numbers and events are
same_entries : (xs ys : List Entry) → map (λ x. x.number) xs ≡ map (λ x. x.number) ys → map (λ x. x.event) xs ≡ map (λ x. x.event) ys → xs ≡ ys
same_entries [] [] n e = refl
same_entries [] (y ∷ ys) n e = cc
same_entries (x ∷ xs) [] n e = cc
same_entries (x ∷ xs) (y ∷ ys) n e =
    let nh : x.number ≡ y.number = cc in
    let eh : x.event ≡ y.event = cc in
    let nt : map (λ x. x.number) xs ≡ map (λ x. x.number) ys = cc in
    let et : map (λ x. x.event) xs ≡ map (λ x. x.event) ys = cc in
    let rest = same_entries xs ys nt et in
    let head : x ≡ y = ap (λ (k : ℕ). entry k x.event) nh ∙ ap (λ (v : Event). entry y.number v) eh in
    cc

numbers-at : (t k : ℕ) (e : Event) (es : List Event) (b : Bool) → map (λ x. x.number) (entries_from t (k + 1) es) ≡ places_from (k + 1) t es → map (λ x. x.number) (cond b (record { number = k; event = e } ∷ entries_from t (k + 1) es) (entries_from t (k + 1) es)) ≡ cond b (k ∷ places_from (k + 1) t es) (places_from (k + 1) t es)
numbers-at t k e es true h = ap (λ (l : List ℕ). k ∷ l) h
numbers-at t k e es false h = h

events-at : (t k : ℕ) (e : Event) (es : List Event) (b : Bool) → map (λ x. x.event) (entries_from t (k + 1) es) ≡ by_thread t es → map (λ x. x.event) (cond b (record { number = k; event = e } ∷ entries_from t (k + 1) es) (entries_from t (k + 1) es)) ≡ cond b (e ∷ by_thread t es) (by_thread t es)
events-at t k e es true h = ap (λ (l : List Event). e ∷ l) h
events-at t k e es false h = h

numbers-of : (t k : ℕ) (es : List Event) → map (λ x. x.number) (entries_from t k es) ≡ places_from k t es
numbers-of t k [] = refl
numbers-of t k (e ∷ es) = numbers-at t k e es (eqb e.thread.0 t) (numbers-of t (k + 1) es)

events-of : (t k : ℕ) (es : List Event) → map (λ x. x.event) (entries_from t k es) ≡ by_thread t es
events-of t k [] = refl
events-of t k (e ∷ es) = events-at t k e es (eqb e.thread.0 t) (events-of t (k + 1) es)

module _ {T H W : Type 0} where
  -- a thread that lives from the opening on
  pub first_living : (p : Shape W) (begin : W → ℕ → H) (version : Version) (n : ℕ) → n < p.layout.threads → p.layout.mutexes ≤ 64 → p.layout.version ≡ version → lives_at_first version n ≡ Live → IsFirst p begin n (first_known {T = T} {H = H} p.table_id version p.world begin n)
  first_living p begin version n low few of lives = record {
    number = refl;
    rest = record {
      of = refl;
      named = low;
      outside = record { spin = refl; queue = refl; owed = refl; left = refl; stand = refl; pen = refl; live = lives };
      wait = refl;
      raised = refl;
      calling = refl;
      turns = refl;
      cleared = refl;
      looked = refl;
      taken = λ m x h. absurd (none_held 64 m x h);
      stored = λ traced lost. (refl, refl);
      child = refl;
      version = sym of;
    };
    world = refl;
    seen = refl;
    mine = refl;
    few = few;
    lacks = λ m l. none_there 64 m l;
    size = length-replicate {A = Opt T} 64 None;
    none = λ m x h. none_held 64 m x h;
    share = refl;
    stints = refl;
  }

  pub first_is : (p : Shape W) (begin : W → ℕ → H) (n : ℕ) (t : Known T H W) → n < p.layout.threads → p.layout.mutexes ≤ 64 → p.layout.version ≡ One → t ≡ first_known p.table_id One p.world begin n → IsFirst p begin n t
  first_is p begin n t low few one e = let P : Known T H W → Type 0 = λ k. IsFirst p begin n k in subst P (sym e) (first_living p begin One n low few one refl)

  -- the same threads leave the same
  pub left_by : (layout : Layout) (holds : List T → List H → Type 0) (threads others : List (Known T H W)) (values : List T) → threads ≡ others → Leaves layout holds (map (λ t. t.part) threads) values → Leaves layout holds (map (λ t. t.part) others) values
  left_by layout holds threads others values e l = subst (λ (ts : List (Known T H W)). Leaves layout holds (map (λ t. t.part) ts) values) e l

  shares-are : (threads : List (Known T H W)) (shares : List H) → length shares ≡ length (map (λ t. t.part) threads) → Each (Shared shares) (map (λ t. t.part) threads) → map (λ t. t.share) threads ≡ map (λ s. Some s) shares
  shares-are [] [] n each = refl
  shares-are [] (s ∷ shares) n each = absurd (omega arith)
  shares-are (t ∷ threads) [] n each = absurd (omega arith)
  shares-are (t ∷ threads) (s ∷ shares) n each =
      let own = each 0 t.part refl in
      let same : own.0 ≡ s = sym (some-injective s own.0 own.2) in
      let rest = shares-are threads shares (omega arith) (λ k. each (suc k)) in
      let head : t.share ≡ Some s = own.1 ∙ ap (λ (z : H). Some z) same in
      cc

  pub keeps_locks : (layout : Layout) (holds : List T → List H → Type 0) (threads : List (Known T H W)) (values : List T) → Leaves layout holds (map (λ t. t.part) threads) values → KeepsLocks holds threads values
  keeps_locks layout holds threads values l = record { shares = l.shares; each_share = shares-are threads l.shares l.each_share l.shared; kept = l.kept }

  pub keeps_stints : (layout : Layout) (holds : List T → List H → Type 0) (threads : List (Known T H W)) (values : List T) (l : Leaves layout holds (map (λ t. t.part) threads) values) → KeepsStints holds threads values l.log
  keeps_stints layout holds threads values l = let k = l.stinted in record {
    first = k.first;
    first_shares = k.first_shares;
    shares = l.shares;
    stints = k.stints;
    each_share = shares-are threads l.shares l.each_share l.shared;
    lead = k.lead;
    in_turn = λ m x y here there. lead-in-turn holds m k.first k.first_shares k.stints values l.shares x y k.lead here there;
    own = λ n t e. k.own n t.part (at_map (λ t. t.part) threads n t e);
    gives = k.gives;
    takes = λ m. takers-are layout.version l.log (l.spec, l.run, l.nothing_held, l.nothing_begun, l.over) m ∙ k.gives m;
  }

  -- each event of the history is by one of the threads
  by-threads : (layout : Layout) (threads : List (Known T H W)) (log : List Event) → HistoryItem layout log (map (λ t. t.part) threads) → All (λ e. e.thread.0 < length threads) log
  by-threads layout threads log recorded k e m =
      let a = recorded.people k (get_or log k e) (at_get_or log k e m) in
      let n : length (map (λ t. t.part) threads) ≡ length threads = length-map threads (λ t. t.part) in
      omega arith

  part_at : (threads : List (Known T H W)) (n : ℕ) (p : Part T H) → get_elem? (map (λ t. t.part) threads) n ≡ some p → (t : Known T H W) × (get_elem? threads n ≡ some t) × (t.seen ≡ p.seen)
  part_at [] n p e = absurd (some-ne-none p (sym e))
  part_at (t ∷ threads) zero p e = (t, refl, ap (λ q. q.seen) (some-injective t.part p e))
  part_at (t ∷ threads) (suc n) p e = part_at threads n p e

  pub whole : (layout : Layout) (holds : List T → List H → Type 0) (threads : List (Known T H W)) (values : List T) (l : Leaves layout holds (map (λ t. t.part) threads) values) → length threads ≡ layout.threads → IsWhole layout threads l.log
  whole layout holds threads values l count = record {
    closed = (l.spec, l.run, l.nothing_held, l.nothing_begun, l.over);
    people = by-threads layout threads l.log l.history;
    names = λ k e m. let a = by-threads layout threads l.log l.history k e m in (omega arith, l.history.names k (get_or l.log k e) (at_get_or l.log k e m));
    longest = ⊎_elim
        (λ (none : l.log ≡ []). inl none)
        (λ (t : (n : ℕ) × (p : Part T H) × (get_elem? (map (λ t. t.part) threads) n ≡ some p) × (p.seen ≡ l.log)). let k = part_at threads t.0 t.1 t.2 in inr (t.0, k.0, k.1, k.2 ∙ t.3))
        l.history.longest;
    seen = λ n t e. (l.history.each n t.part (at_map (λ t. t.part) threads n t e)).begins;
    own = λ n t e. (l.history.each n t.part (at_map (λ t. t.part) threads n t e)).own;
  }

  -- what the closed threads have stored, where none of it is lost, is the history
  pub are_stored : (layout : Layout) (holds : List T → List H → Type 0) (p : Shape W) (threads : List (Known T H W)) (values : List T) (stored : List Stored) (l : Leaves layout holds (map (λ t. t.part) threads) values) → Each (λ _ t. HasStored p.traced t) threads → p.traced ≡ true
      → map (λ s. s.entries.items) stored ≡ map (λ t. t.entries) threads → map (λ s. s.lost) stored ≡ map (λ t. t.lost) threads → AreStored l.log stored
  are_stored layout holds p threads values stored l done traced entries losses =
      let n0 : length (map (λ s. s.entries.items) stored) ≡ length stored = length-map stored (λ s. s.entries.items) in
      let n1 : length (map (λ t. t.entries) threads) ≡ length threads = length-map threads (λ t. t.entries) in
      let n3 : length (map (λ s. s.entries.items) stored) ≡ length (map (λ t. t.entries) threads) = ap length entries in
      record {
        threads = λ k e m. let a = by-threads layout threads l.log l.history k e m in omega arith;
        each = λ t d m whole.
            let there = some_at threads t (omega arith) in
            let k = there.0 in
            let s = get_or stored t d in
            let at = at_get_or stored t d m in
            let same : s.entries.items ≡ k.entries = some-injective s.entries.items k.entries (sym (at_map (λ s. s.entries.items) stored t s at) ∙ (ap (λ xs. get_elem? xs t) entries ∙ at_map (λ t. t.entries) threads t k there.1)) in
            let lost : s.lost ≡ k.lost = some-injective s.lost k.lost (sym (at_map (λ s. s.lost) stored t s at) ∙ (ap (λ xs. get_elem? xs t) losses ∙ at_map (λ t. t.lost) threads t k there.1)) in
            let own = done t k there.1 traced (sym lost ∙ whole) in
            let log = l.history.each t k.part (at_map (λ t. t.part) threads t k there.1) in
            same ∙ same_entries k.entries (entries_of t l.log) (own.0 ∙ (sym log.placed ∙ sym (numbers-of t 0 l.log))) (own.1 ∙ (sym log.own ∙ sym (events-of t 0 l.log)));
      }
