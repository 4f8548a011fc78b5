-- Threads before their fork, after it, and after their end.
use Rattle.std.proofs.Common.{◌≡◌, ◌≢◌, ℕ, suc, zero, ◌+◌, ◌<◌, ◌≤◌, List, [], ◌∷◌, ◌++◌, length, false, refl, sym, ap, ◌∙◌, subst, arith, append-nil, Some}
use Rattle.std.specs.List.{remove}
use mathlib.Core.Option.{some, some-ne-none}
use lib.ListN.{get_elem?}
use Rattle.atomic_table.specs.Seated.{TableId}
use Rattle.larch_actions.specs.declared.event.Event.{Event}
use Rattle.larch_actions.specs.declared.event.Life.TheVariants.{Unborn, Live}
use Rattle.larch_actions.specs.declared.event.Version.TheVariants.{Two}
use Rattle.larch_actions.specs.Actions.{by_thread, lives_at_first}
use Rattle.nub_rule.specs.declared.view.Child.TheVariants.{No}
use Rattle.nub_rule.specs.declared.view.Kind.TheVariants.{Member}
use Rattle.nub_rule.specs.Ends.{first_known, newborn_known}
use Rattle.nub_rule.specs.Forks.{AreAll, IsUnborn, in_order}
use Rattle.nub_rule.specs.Items.{Each}
use Rattle.nub_rule.specs.Known.{HasNone, Known, Makes, Shape, free_space, known_as}
use Rattle.nub_rule.specs.Parts.{HasNothing, fresh}
use Rattle.nub_rule.specs.Rule.{begun}
use Rattle.nub_rule.proofs.Each.{each-snoc, put-else}
use Rattle.nub_rule.proofs.Ordering.{one-there}
use Rattle.nub.specs.Ended.{IsFirst}
use Rattle.nub.specs.Forks.{IsBegun, IsRight}
use Rattle.nub.specs.Idle.{IsIdle}
use Rattle.nub.specs.Rest.{Adds, AtRest}
use Rattle.nub.proofs.Adding.{grown, legal_as}
use Rattle.nub.proofs.Closing.{first_living, none_held, none_there}

module _ {A : Type 0} where
  -- what stands after the first
  pub tail_of-first : (xs ys : List A) (n : ℕ) (y : A) → ys ≡ remove xs 0 → 1 ≤ length xs → get_elem? ys n ≡ some y → get_elem? xs (n + 1) ≡ some y
  tail_of-first [] ys n y is some_there at = absurd (omega arith)
  tail_of-first (x ∷ xs) ys n y is some_there at = let e : n + 1 ≡ suc n = omega arith in ap (get_elem? (x ∷ xs)) e ∙ (ap (λ l. get_elem? l n) (sym is) ∙ at)

  pub fewer : (xs ys : List A) → ys ≡ remove xs 0 → 1 ≤ length xs → length ys + 1 ≡ length xs
  fewer [] ys is some_there = absurd (omega arith)
  fewer (x ∷ xs) ys is some_there = let e = ap length is in omega arith

pub append-same : {A : Type 0} {xs xs' ys ys' : List A} → xs ≡ xs' → ys ≡ ys' → xs ++ ys ≡ xs' ++ ys'
append-same x y = λ j. x j ++ y j

-- all threads but the first are unborn at first
unborn-first : (n : ℕ) → n ≢ 0 → lives_at_first Two n ≡ Unborn
unborn-first n ne = put-else (λ _. Unborn) 0 n Live ne

module _ {T H W : Type 0} where
  -- what is so of each of a list is so of each in order
  pub in-order-each : (P : Known T H W → Type 0) (n : ℕ) (ks : List (Known T H W)) → AreAll n ks → Each (λ _ k. P k) ks → Each (λ _ k. P k) (in_order n ks)
  in-order-each P zero ks all each = λ i x at. absurd (some-ne-none x (sym at))
  in-order-each P (suc n) ks all each =
      let one = all n (omega arith) in
      let there = one-there n ks one.0 one.1 in
      each-snoc (λ _ k. P k) (in_order n ks) (in_order (suc n) ks) (length (in_order n ks)) one.0 (ap (λ l. in_order n ks ++ l) one.1) refl (each there.0 one.0 there.1) (in-order-each P n ks (λ i low. all i (omega arith)) each)

  -- the threads of a closed package of version two
  pub threads-same : {n n' : ℕ} {xs ks bs ks' bs' : List (Known T H W)} → xs ≡ [] → n ≡ n' → ks ≡ ks' → bs ≡ bs' → xs ++ in_order n (ks ++ bs) ≡ in_order n' (ks' ++ bs')
  threads-same x e a b = λ j. x j ++ in_order (e j) (a j ++ b j)

  -- of nobody there is nobody in order
  pub in-order-none : (n : ℕ) → in_order {T = T} {H = H} {W = W} n [] ≡ []
  in-order-none zero = refl
  in-order-none (suc n) = ap (λ l. l ++ []) (in-order-none n)

  -- the threads of a closed package of version one
  pub threads-only : (n : ℕ) {xs us ks bs : List (Known T H W)} → xs ≡ us → ks ≡ [] → bs ≡ [] → xs ++ in_order n (ks ++ bs) ≡ us
  threads-only n {us = us} x k b = (λ j. x j ++ in_order n (k j ++ b j)) ∙ (ap (λ l. us ++ l) (in-order-none n) ∙ append-nil us)

  -- the first thread of version two lives from the opening on
  pub first_of_two : (p : Shape W) (begin : W → ℕ → H) (t : Known T H W) → 0 < p.layout.threads → p.layout.mutexes ≤ 64 → p.layout.version ≡ Two → t ≡ first_known p.table_id Two p.world begin 0 → IsFirst p begin 0 t
  first_of_two p begin t low few two e = let P : Known T H W → Type 0 = λ k. IsFirst p begin 0 k in subst P (sym e) (first_living p begin Two 0 low few two refl)

  pub right_is : (p : Shape W) (begin : W → ℕ → H) (n : ℕ) (t : Known T H W) → n < p.layout.threads → t ≡ first_known p.table_id Two p.world begin n → IsRight p begin n t
  right_is p begin n t low e = let P : Known T H W → Type 0 = λ k. IsRight p begin n k in
      subst P (sym e) record { number = refl; left = record { of = refl; named = low; stored = λ traced lost. (refl, refl) }; world = refl; seen = refl; mine = refl; share = refl; stints = refl }

  pub unborn_is : (z : TableId) (w : W) (begin : W → ℕ → H) (n : ℕ) (t : Known T H W) → n ≢ 0 → t ≡ first_known z Two w begin n → IsUnborn begin t
  unborn_is z w begin n t ne e = let P : Known T H W → Type 0 = λ k. IsUnborn begin k in
      subst P (sym e) record {
        later = omega arith;
        world = w;
        is = λ i. known_as z n (record { world = Some w; kind = Member; number = n; part = fresh Two (unborn-first n ne i) [] (Some (begin w n)); child = No; next = 0; back = [] }, []) [] (free_space 0) 0;
      }

  pub begun_is : (p : Shape W) (begin : W → ℕ → H) (n : ℕ) (a t : Known T H W) → n < p.layout.threads → p.layout.mutexes ≤ 64 → a.version ≡ p.layout.version → t ≡ newborn_known p.table_id a.version a.world begin n a.seen t.capacity → IsBegun p begin n a t
  begun_is p begin n a t low few of e = let P : Known T H W → Type 0 = λ k. IsBegun p begin n a k in
      subst P (sym e) record {
        number = refl;
        rest = record {
          of = refl;
          named = low;
          outside = record { spin = refl; queue = refl; owed = refl; left = refl; stand = refl; pen = refl; live = refl };
          wait = refl;
          raised = refl;
          calling = refl;
          turns = refl;
          cleared = refl;
          looked = refl;
          taken = λ m x h. absurd (none_held 64 m x h);
          stored = λ traced lost. (refl, refl);
          child = refl;
          version = of;
        };
        world = refl;
        seen = refl;
        mine = refl;
        lacks = λ m low. none_there 64 m low;
        lacks_named = λ m low. none_there 64 m (omega arith);
        none = λ m x h. none_held 64 m x h;
        share = refl;
        stints = refl;
      }

  -- who was begun is idle, with its first share
  pub idle_begun : (p : Shape W) (begin : W → ℕ → H) (n : ℕ) (a t : Known T H W) → IsBegun p begin n a t → a.world ≡ Some p.world → IsIdle p n (begin p.world n) t
  idle_begun p begin n a t b world = record {
    number = b.number;
    rest = b.rest;
    world = b.world ∙ world;
    lacks = b.lacks;
    lacks_named = b.lacks_named;
    none = b.none;
    share = b.share ∙ ap (begun begin n) world;
  }

  -- a thread at rest without a mutex has nothing, nor with the pen
  pub nothing_at_rest : (p : Shape W) (a b : Known T H W) → b ≡ record a { part = record a.part { pen = b.pen }; next = b.next } → AtRest p a → HasNone a → HasNothing b.part
  nothing_at_rest p a b e rest none = record {
    none = λ m x got. none m x (ap (λ k. get_elem? k.held m) (sym e) ∙ got);
    spin = ap (λ k. k.spin) e ∙ rest.outside.spin;
    queue = ap (λ k. k.queue) e ∙ rest.outside.queue;
    owed = ap (λ k. k.owed) e ∙ rest.outside.owed;
    left = ap (λ k. k.left) e ∙ rest.outside.left;
    wait = ap (λ k. k.wait) e ∙ rest.wait;
    stand = ap (λ k. k.stand) e ∙ rest.outside.stand;
    turns = ap (λ k. k.turns) e ∙ rest.turns;
    cleared = ap (λ k. k.cleared) e ∙ rest.cleared;
    looked = ap (λ k. k.looked) e ∙ rest.looked;
    calling = ap (λ k. k.calling) e ∙ rest.calling;
    raised = ap (λ k. k.raised) e ∙ rest.raised;
  }

  -- what one event adds, from before a step that changed nothing of the history to after one
  pub adds_within : (e : Event) (a b c d : Known T H W) → b.number ≡ a.number → b.seen ≡ a.seen → b.mine ≡ a.mine → Makes e b c → d.number ≡ b.number → d.version ≡ b.version → d.seen ≡ c.seen → d.mine ≡ c.mine → Adds [] e a d
  adds_within e a b c d n s m made dn dv ds dm =
      let seen : d.seen ≡ (b.seen ++ made.0) ++ e ∷ [] = ds ∙ made.2 in record {
        mine = dm ∙ (made.3 ∙ ap (λ l. l ++ e ∷ []) (m ∙ sym (append-nil a.mine)));
        legal = legal_as b.version d.version ((b.seen ++ made.0) ++ e ∷ []) d.seen dv (sym seen) made.1.legal;
        grows = grown a.seen made.0 d.seen e (seen ∙ ap (λ l. (l ++ made.0) ++ e ∷ []) s);
        ends = (b.seen ++ made.0, seen);
        own = ap (λ z. by_thread z d.seen) dn ∙ (ap (by_thread b.number) seen ∙ (made.1.own ∙ (sym made.3 ∙ sym dm)));
      }
