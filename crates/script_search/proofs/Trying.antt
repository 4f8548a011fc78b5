-- Tries of single events make up tries of all.
use Rattle.std.proofs.Common.{◌≡◌, ◌⊎◌, inl, inr, ℕ, zero, suc, ◌+◌, ◌<◌, Bool, true, false, cond, eqb, eq-eqb, ne_eqb, below_more, ◌||◌, List, [], ◌∷◌, ◌++◌, length, length-append, get_or, map, refl, sym, ap, subst, ◌∙◌, arith, Some, None, Option, MatchBool}
use Rattle.std.proofs.lemmas.List.{length-map}
use Rattle.std.specs.List.{slice_get}
use Rattle.larch_actions.specs.declared.event.Event.{Event}
use Rattle.larch_actions.specs.declared.event.Layout.{Layout}
use Rattle.script_text.specs.declared.line.Line.{Line}
use Rattle.script_plays.specs.Scenes.{Scene}
use Rattle.script_plays.specs.Plays.{Goes, GoesOn, IsPlayTo}
use Rattle.larch_actions.specs.declared.event.CondId.{CondId}
use Rattle.larch_actions.specs.declared.event.Action.TheVariants as action
use Rattle.larch_actions.specs.declared.thread_set.ThreadSet.{ThreadSet}
use Rattle.larch_actions.specs.Sets.{in_set}
use Rattle.larch_actions.specs.Actions.{MayLeave, put}
use Rattle.script_text.specs.Runs.{event}
use Rattle.script_plays.specs.declared.choice.Turn.{Turn}
use Rattle.script_plays.specs.declared.choice.Turn.TheVariants.{Next}
use Rattle.script_plays.specs.Choices.{next}
use Rattle.script_plays.specs.Scenes.{rest_of, settled, turned}
use Rattle.script_plays.proofs.Scened.{goes_one, gives_one}
use Rattle.script_search.specs.declared.found.Found.{Found}
use Rattle.script_search.specs.Boards.{Moment, moment_of, spec_of, played_of, scene_of, IsBoard}
use Rattle.script_search.specs.Keys.{key_of}
use Rattle.script_search.specs.Founds.{moments_of, IsKeyed, Adds, IsFull}
use Rattle.script_search.specs.Seen.{HasScene, HasEnd, IsSeen}
use Rattle.script_search.specs.Chains.{IsChain, Chains}
use Rattle.script_plays.specs.declared.choice.Choice.{Choice}
use Rattle.script_search.specs.declared.board.Board.{Board}
use Rattle.script_search.specs.Moves.{Moves}
use Rattle.script_search.specs.Tries.{IsSound, IsAt, Grows, Tries, Exceeds, MayTry, IsTried, AreTried, Leaves}
use Rattle.script_search.proofs.Unpacked.{same_key}
use Rattle.script_search.proofs.Growing.{seen_pushed, there_before, there_last, there_mapped}
use Rattle.script_search.proofs.Ending.{reached}

pub grows_both : (l : Layout) (xs : List Line) (a b c : Found) → Grows l xs a b → Grows l xs b c → Grows l xs a c
grows_both l xs a b c p q = record { sound = q.sound; kept = λ k m at. q.kept k m (p.kept k m at); limit = q.limit ∙ p.limit }

pub grows_none : (l : Layout) (xs : List Line) (a : Found) → IsSound l xs a → Grows l xs a a
grows_none l xs a sound = record { sound = sound; kept = λ k m at. at; limit = refl }

pub has_more : (l : Layout) (xs : List Line) (a b : Found) (s : Scene) → Grows l xs a b → HasScene (moments_of a) s → HasScene (moments_of b) s
has_more l xs a b s grows has = (has.0, has.1, grows.kept has.0 has.1 has.2, has.3)

pub end_more : (l : Layout) (xs : List Line) (a b : Found) (s : Scene) → Grows l xs a b → HasEnd l xs (moments_of a) s → HasEnd l xs (moments_of b) s
end_more l xs a b s grows end = (end.0, end.1, end.2, has_more l xs a b end.1 grows end.3)

module _ (l : Layout) (xs : List Line) (m : Moment) where
  -- nothing to try
  pub tries_none : (a : Found) → IsSound l xs a → Tries l xs a a m (λ e. ⊥) false
  tries_none a sound = record { grows = grows_none l xs a sound; covers = λ e s h g. absurd h; goes = λ e s h g. absurd h }

  -- fewer events
  pub tries_less : (a b : Found) (P Q : Event → Type 0) (r : Bool) → ((e : Event) (s : Scene) → Q e → Goes l xs (scene_of m) e s → P e) → Tries l xs a b m P r → Tries l xs a b m Q r
  tries_less a b P Q true less t = record { grows = t.grows; covers = λ e s h g. t.covers e s (less e s h g) g; goes = t.goes }
  tries_less a b P Q false less t = record { grows = t.grows; covers = λ e s h g. t.covers e s (less e s h g) g; goes = λ e s h g. t.goes e s (less e s h g) g }

  -- events that lead where these do
  pub tries_like : (a b : Found) (P Q : Event → Type 0) (r : Bool) → ((e : Event) (s : Scene) → Q e → Goes l xs (scene_of m) e s → (f : Event) × P f × Goes l xs (scene_of m) f s)
      → Tries l xs a b m P r → Tries l xs a b m Q r
  tries_like a b P Q true like t = record { grows = t.grows; covers = λ e s h g. let f = like e s h g in t.covers f.0 s f.1 f.2; goes = t.goes }
  tries_like a b P Q false like t = record { grows = t.grows; covers = λ e s h g. let f = like e s h g in t.covers f.0 s f.1 f.2; goes = λ e s h g. let f = like e s h g in t.goes f.0 s f.1 f.2 }

  -- these events and those
  pub tries_both : (a b c : Found) (P Q : Event → Type 0) (r q : Bool) → Tries l xs a b m P r → Tries l xs b c m Q q → Tries l xs a c m (λ e. P e ⊎ Q e) (r || q)
  tries_both a b c P Q r q t u = record {
    grows = grows_both l xs a b c t.grows u.grows;
    covers = λ e s h g. elim h [ inl p ↦ end_more l xs b c s u.grows (t.covers e s p g) | inr w ↦ u.covers e s w g ];
    goes = either r q t.goes u.goes;
  }
    where
      either : (r q : Bool) → MatchBool r (GoesOn l xs (scene_of m)) ((e : Event) (s : Scene) → P e → Goes l xs (scene_of m) e s → ⊥)
          → MatchBool q (GoesOn l xs (scene_of m)) ((e : Event) (s : Scene) → Q e → Goes l xs (scene_of m) e s → ⊥)
          → MatchBool (r || q) (GoesOn l xs (scene_of m)) ((e : Event) (s : Scene) → P e ⊎ Q e → Goes l xs (scene_of m) e s → ⊥)
      either true q x y = x
      either false true x y = y
      either false false x y = λ e s h g. elim h [ inl p ↦ x e s p g | inr w ↦ y e s w g ]

-- the board that an event and the chain after it led to was added
module _ (l : Layout) (xs : List Line) (old new : Found) (p : ℕ) (a m : Moment) (e : Event) (u : Scene) (rest : List Event)
    (sound : IsSound l xs old) (at : IsAt old p a) (goes : Goes l xs (scene_of a) e u) (chain : IsChain l xs u rest (scene_of m)) (board : IsBoard l m) where
  added_grows : IsKeyed new → Adds old new m p → Grows l xs old new
  added_grows keyed adds = elim adds [
    | inl same ↦ subst (λ (z : Found). Grows l xs old z) (sym same.1) (grows_none l xs old sound)
    | inr pushed ↦
        let push = pushed.1 in
        record {
          sound = record {
            keyed = keyed;
            layout = push.layout ∙ sound.layout;
            seen = subst (λ (ms : List Moment). IsSeen l xs ms new.parents.items) (sym push.moments)
                (subst (λ (ps : List ℕ). IsSeen l xs (moments_of old ++ m ∷ []) ps) (sym push.parents)
                (seen_pushed l xs (moments_of old) old.parents.items sound.seen p a m e u rest at goes chain board pushed.0));
          };
          kept = λ k n there. subst (λ (ms : List Moment). slice_get ms k ≡ Some n) (sym push.moments) (there_before (moments_of old) m n k there);
          limit = push.limit;
        }
  ]

  added_has : Adds old new m p → HasScene (moments_of new) (scene_of m)
  added_has adds = elim adds [
    | inl same ↦
        let was = there_mapped key_of (moments_of old) same.0.0 (key_of m) same.0.1 in
        let is = same_key l was.0 m (sound.seen.boards same.0.0 was.0 was.1) board was.2 in
        subst (λ (z : Found). HasScene (moments_of z) (scene_of m)) (sym same.1) (same.0.0, was.0, was.1, ap scene_of is)
    | inr pushed ↦
        (length (moments_of old), m, subst (λ (ms : List Moment). slice_get ms (length (moments_of old)) ≡ Some m) (sym pushed.1.moments) (there_last (moments_of old) m (length (moments_of old)) refl), refl)
  ]

  pub tries_one : IsKeyed new → Adds old new m p → Tries l xs old new a (λ f. f ≡ e) true
  tries_one keyed adds = record {
    grows = added_grows keyed adds;
    covers = λ f s same g.
        let here = subst (λ (z : Event). Goes l xs (scene_of a) z s) same g in
        let is = goes_one l xs (scene_of a) e u s goes here in
        subst (λ (z : Scene). HasEnd l xs (moments_of new) z) is (rest, scene_of m, chain, added_has adds);
    goes = (e, u, goes);
  }

  -- and could not be added for the limit
  pub exceeds : IsFull old m → Exceeds l xs old.limit
  exceeds full =
      let seen = seen_pushed l xs (moments_of old) old.parents.items sound.seen p a m e u rest at goes chain board full.absent in
      let ms = moments_of old ++ m ∷ [] in
      record {
        scenes = map scene_of ms;
        count = length-map ms scene_of ∙ (length-append (moments_of old) (m ∷ []) ∙ ap (λ n. n + 1) full.count);
        reached = λ k s there.
            let n = there_mapped scene_of ms k s there in
            subst (λ (z : Scene). (h : List Event) × IsPlayTo l xs h z) n.2 (reached l xs ms (old.parents.items ++ p ∷ []) seen k n.0 n.1);
        distinct = λ i k s u ati atk low.
            let n = there_mapped scene_of ms i s ati in
            let o = there_mapped scene_of ms k u atk in
            λ same. seen.distinct i k n.0 o.0 n.1 o.1 low (n.2 ∙ (same ∙ sym o.2));
      }

-- an event that may not come
pub tries_refused : (l : Layout) (xs : List Line) (m : Moment) (a : Found) (e : Event) (o : Option Board) → IsSound l xs a → Moves l xs m e o → o ≡ None → Tries l xs a a m (λ f. f ≡ e) false
tries_refused l xs m a e o sound moves is =
    let none = subst (λ (z : Option Board). Moves l xs m e z) is moves in
    tries_less l xs m a a (λ f. ⊥) (λ f. f ≡ e) false (λ f s same g. none s (subst (λ (z : Event). Goes l xs (scene_of m) z s) same g)) (tries_none l xs m a sound)

pub moved_goes : (l : Layout) (xs : List Line) (m : Moment) (e : Event) (o : Option Board) (b : Board) → Moves l xs m e o → o ≡ Some b → Goes l xs (scene_of m) e (scene_of (moment_of b)) × IsBoard l (moment_of b)
moved_goes l xs m e o b moves is = subst (λ (z : Option Board). Moves l xs m e z) is moves

-- the board at the end of a chain is one of the layout
pub end_board : (l : Layout) (xs : List Line) (f : Found) (m n : Moment) (old new : List Event) → IsSound l xs f → Chains l xs m old new n → IsBoard f.layout n
end_board l xs f m n old new sound chains = subst (λ (z : Layout). IsBoard z n) (sym sound.layout) chains.3

-- an event led to a board, and a chain from there to another
module _ (l : Layout) (xs : List Line) (m : Moment) (old : Found) (p : ℕ) (e : Event) (o : Option Board) (b : Board) (n : Moment) (before after : List Event)
    (sound : IsSound l xs old) (at : IsAt old p m) (moves : Moves l xs m e o) (is : o ≡ Some b) (chains : Chains l xs (moment_of b) before after n) where
  pub tries_added : (new : Found) → IsKeyed new → Adds old new n p → Tries l xs old new m (λ f. f ≡ e) true
  tries_added new keyed adds =
      tries_one l xs old new p m n e (scene_of (moment_of b)) chains.0 sound at (moved_goes l xs m e o b moves is).0 chains.2 chains.3 keyed adds

  pub tries_full : IsFull old n → Exceeds l xs old.limit
  tries_full full =
      exceeds l xs old old p m n e (scene_of (moment_of b)) chains.0 sound at (moved_goes l xs m e o b moves is).0 chains.2 chains.3 full

-- three choices make up all
three_of : (t : ℕ) (a b c : Option Choice) (e : Event) → AreTried t (a ∷ b ∷ c ∷ []) e → (IsTried t a e ⊎ IsTried t b e) ⊎ IsTried t c e
three_of t a b c e (zero, x, at, is) = inl (inl (x, cc, is))
three_of t a b c e (suc zero, x, at, is) = inl (inr (x, cc, is))
three_of t a b c e (suc (suc zero), x, at, is) = inr (x, cc, is)
three_of t a b c e (suc (suc (suc k)), x, at, is) = absurd (cc)

pub three_tried : (l : Layout) (xs : List Line) (m : Moment) (f g h i : Found) (t : ℕ) (cs : List (Option Choice)) (a b c : Option Choice) (p q r : Bool) → cs ≡ a ∷ b ∷ c ∷ []
    → Tries l xs f g m (IsTried t a) p → Tries l xs g h m (IsTried t b) q → Tries l xs h i m (IsTried t c) r → Tries l xs f i m (AreTried t cs) ((p || q) || r)
three_tried l xs m f g h i t cs a b c p q r is x y z =
    let two = tries_both l xs m f g h (IsTried t a) (IsTried t b) p q x y in
    let all = tries_both l xs m f h i (λ e. IsTried t a e ⊎ IsTried t b e) (IsTried t c) (p || q) r two z in
    tries_less l xs m f i (λ e. (IsTried t a e ⊎ IsTried t b e) ⊎ IsTried t c e) (AreTried t cs) ((p || q) || r)
    (λ e s tried g. three_of t a b c e (subst (λ (z : List (Option Choice)). AreTried t z e) is tried)) all

module _ {X : Type 0} where
  pub some_same : (a b : X) (o : Option X) → o ≡ Some a → o ≡ Some b → a ≡ b
  some_same a b None p q = absurd (cc)
  some_same a b (Some c) p q = cc

-- the one choice that there is
pub tried_only : (l : Layout) (xs : List Line) (m : Moment) (f g : Found) (t : ℕ) (o : Option Choice) (c : Choice) (r : Bool) → o ≡ Some c
    → Tries l xs f g m (λ e. e ≡ event t c.action) r → Tries l xs f g m (IsTried t o) r
tried_only l xs m f g t o c r is tries =
    tries_less l xs m f g (λ e. e ≡ event t c.action) (IsTried t o) r
    (λ e s tried goes. tried.2 ∙ ap (λ (z : Choice). event t z.action) (some_same tried.0 c o tried.1 is)) tries

pub list_of_three : {X : Type 0} (d : X) (xs : List X) → length xs ≡ 3 → xs ≡ get_or xs 0 d ∷ get_or xs 1 d ∷ get_or xs 2 d ∷ []
list_of_three d [] size = absurd (omega arith)
list_of_three d (a ∷ []) size = absurd (omega arith)
list_of_three d (a ∷ b ∷ []) size = absurd (omega arith)
list_of_three d (a ∷ b ∷ c ∷ []) size = refl
list_of_three d (a ∷ b ∷ c ∷ e ∷ rest) size = absurd (omega arith)

-- the sets that a signal may leave, by their threads alone
module _ (l : Layout) (xs : List Line) (m : Moment) (t : ℕ) (c : CondId) (a b : ThreadSet) (same : (u : ℕ) → in_set a u ≡ in_set b u)
    (may_a : MayTry l xs m t (next (action.Signal c a))) (may_b : MayTry l xs m t (next (action.Signal c b))) where
  alike : in_set a ≡ in_set b
  alike = λ i u. same u i

  pub goes_alike : (s : Scene) → Goes l xs (scene_of m) (event t (action.Signal c a)) s → Goes l xs (scene_of m) (event t (action.Signal c b)) s
  goes_alike s g =
      let turns = gives_one l.version (rest_of xs (played_of m) t) (action.Signal c a) g.turn Next g.gives may_a.gives in
      let may = g.acts.0 in
      record {
        thread = g.thread;
        turn = Next;
        gives = may_b.gives;
        acts = (
          record {
            live = may.live;
            order = may.order;
            requires_met = may.requires_met;
            when_met = may.when_met;
            choice_met = subst (λ (f : ℕ → Bool). MayLeave ((spec_of m).members c.0) f) alike may.choice_met;
          },
          g.acts.1 ∙ ap (λ (f : ℕ → Bool). record (spec_of m) { members = put (spec_of m).members c.0 f }) alike,
        );
        played = g.played ∙ ap (λ (z : Turn). settled l.threads xs t (turned z t (played_of m))) turns;
      }

-- a signal whose set is this one
signal_is : (l : Layout) (xs : List Line) (m : Moment) (t : ℕ) (c : CondId) (left : ThreadSet) (n : ℕ) → n ≡ l.threads
    → ((u : ℕ) → in_set left u ≡ true → u < n)
    → ((x : ThreadSet) → ((u : ℕ) → in_set x u ≡ true → u < l.threads) → MayTry l xs m t (next (action.Signal c x)))
    → (e : Event) (s : Scene) → Leaves m l.threads t c left n e → Goes l xs (scene_of m) e s
    → (f : Event) × (f ≡ event t (action.Signal c left)) × Goes l xs (scene_of m) f s
signal_is l xs m t c left n all low may e s leaves g =
    let set = leaves.set in
    let alike : (u : ℕ) → in_set set u ≡ in_set left u = λ u. agree u (in_set set u) (in_set left u) refl refl in
    let may_set = may set (λ u has. (leaves.within u has).0) in
    let may_left = may left (λ u has. omega (arith, all, low u has)) in
    let here = subst (λ (z : Event). Goes l xs (scene_of m) z s) leaves.event_is g in
    (event t (action.Signal c left), refl, goes_alike l xs m t c set left alike may_set may_left s here)
  where
    agree : (u : ℕ) (p q : Bool) → in_set leaves.set u ≡ p → in_set left u ≡ q → in_set leaves.set u ≡ in_set left u
    agree u true q h k = leaves.agrees u (omega (arith, all, (leaves.within u h).0))
    agree u false true h k = leaves.agrees u (low u k)
    agree u false false h k = h ∙ sym k

pub signals_leaf : (l : Layout) (xs : List Line) (m : Moment) (f g : Found) (t : ℕ) (c : CondId) (left : ThreadSet) (n : ℕ) (r : Bool) → n ≡ l.threads
    → ((u : ℕ) → in_set left u ≡ true → u < n)
    → ((x : ThreadSet) → ((u : ℕ) → in_set x u ≡ true → u < l.threads) → MayTry l xs m t (next (action.Signal c x)))
    → Tries l xs f g m (λ e. e ≡ event t (action.Signal c left)) r → Tries l xs f g m (Leaves m l.threads t c left n) r
signals_leaf l xs m f g t c left n r all low may tries =
    tries_like l xs m f g (λ e. e ≡ event t (action.Signal c left)) (Leaves m l.threads t c left n) r (signal_is l xs m t c left n all low may) tries

-- the next thread is decided: it isn't in the set
leaves_out : (m : Moment) (threads t : ℕ) (c : CondId) (left : ThreadSet) (n : ℕ) → ((u : ℕ) → in_set left u ≡ true → u < n) → (e : Event) (v : Leaves m threads t c left n e) → in_set v.set n ≡ false
    → Leaves m threads t c left (n + 1) e
leaves_out m threads t c left n low e v out = record {
  set = v.set;
  event_is = v.event_is;
  agrees = below_more _ n v.agrees (out ∙ sym (lacks (in_set left n) refl));
  within = v.within;
}
  where
    lacks : (b : Bool) → in_set left n ≡ b → in_set left n ≡ false
    lacks true h = absurd (omega (arith, low n h))
    lacks false h = h

-- or it is
leaves_in : (m : Moment) (threads t : ℕ) (c : CondId) (left more : ThreadSet) (n : ℕ) → ((k : ℕ) → in_set more k ≡ cond (eqb n k) true (in_set left k)) → (e : Event) (v : Leaves m threads t c left n e)
    → in_set v.set n ≡ true → Leaves m threads t c more (n + 1) e
leaves_in m threads t c left more n added e v has = record {
  set = v.set;
  event_is = v.event_is;
  agrees = below_more _ n (λ k below. v.agrees k below ∙ sym (added k ∙ ap (λ b. cond b true (in_set left k)) (ne_eqb n k (omega arith)))) (has ∙ sym (added n ∙ ap (λ b. cond b true (in_set left n)) (eq-eqb n n refl)));
  within = v.within;
}

-- a thread that isn't in the condition stays out of the set
pub signals_past : (l : Layout) (xs : List Line) (m : Moment) (f g : Found) (t : ℕ) (c : CondId) (left : ThreadSet) (n : ℕ) (r : Bool) → ((u : ℕ) → in_set left u ≡ true → u < n)
    → (spec_of m).members c.0 n ≡ false → Tries l xs f g m (Leaves m l.threads t c left (n + 1)) r → Tries l xs f g m (Leaves m l.threads t c left n) r
signals_past l xs m f g t c left n r low outside tries =
    tries_less l xs m f g (Leaves m l.threads t c left (n + 1)) (Leaves m l.threads t c left n) r
    (λ e s v goes. leaves_out m l.threads t c left n low e v (lacks v.set (in_set v.set n) refl v.within)) tries
  where
    false_true : false ≡ true → ⊥
    false_true e = cc

    lacks : (x : ThreadSet) (b : Bool) → in_set x n ≡ b → ((u : ℕ) → in_set x u ≡ true → (u < l.threads) × ((spec_of m).members c.0 u ≡ true)) → in_set x n ≡ false
    lacks x true h within = absurd (false_true (sym outside ∙ (within n h).1))
    lacks x false h within = h

-- one that is in it may stay in the set or not
pub signals_fork : (l : Layout) (xs : List Line) (m : Moment) (f g h : Found) (t : ℕ) (c : CondId) (left more : ThreadSet) (n : ℕ) (r q : Bool) → ((u : ℕ) → in_set left u ≡ true → u < n)
    → ((k : ℕ) → in_set more k ≡ cond (eqb n k) true (in_set left k)) → Tries l xs f g m (Leaves m l.threads t c left (n + 1)) r → Tries l xs g h m (Leaves m l.threads t c more (n + 1)) q
    → Tries l xs f h m (Leaves m l.threads t c left n) (r || q)
signals_fork l xs m f g h t c left more n r q low added x y =
    tries_less l xs m f h (λ e. Leaves m l.threads t c left (n + 1) e ⊎ Leaves m l.threads t c more (n + 1) e) (Leaves m l.threads t c left n) (r || q)
    (λ e s v goes. by e v (in_set v.set n) refl)
    (tries_both l xs m f g h (Leaves m l.threads t c left (n + 1)) (Leaves m l.threads t c more (n + 1)) r q x y)
  where
    by : (e : Event) (v : Leaves m l.threads t c left n e) (b : Bool) → in_set v.set n ≡ b → Leaves m l.threads t c left (n + 1) e ⊎ Leaves m l.threads t c more (n + 1) e
    by e v false out = inl (leaves_out m l.threads t c left n low e v out)
    by e v true has = inr (leaves_in m l.threads t c left more n added e v has)
