-- A thread that forks another, and the one that is forked.
use Rattle.std.proofs.Common.{◌≡◌, ◌≢◌, ℕ, ◌+◌, inl, inr, List, [], ◌∷◌, ◌++◌, length, get_or, take, drop, refl, ap, sym, subst, ◌∙◌, Bool, true, false, Some, None, arith}
use Rattle.std.specs.Prelude.{slice_get}
use Rattle.std.proofs.lemmas.Bool.{eq-eqb, false≢true}
use Rattle.std.proofs.lemmas.Bool.Decides.{eqb_tells}
use Rattle.std.proofs.lemmas.List.{take_more, take-append-drop}
use Rattle.std.proofs.lemmas.Option.{slice_get_within, get_or_from_slice_get}
use Rattle.larch_actions.specs.declared.event.Layout.{Layout}
use Rattle.larch_actions.specs.declared.event.Version.TheVariants.{Two}
use Rattle.nub_rule.specs.Known.{Shape, with_room_for}
use Rattle.nub_rule.specs.Plays.{fork_event}
use Rattle.nub_rule.specs.Rule.{begun as first_share}
use Rattle.nub.specs.Forks.{IsBegun}
use Rattle.nub.specs.Rest.{AtRest, Adds, IsSame}
use Rattle.nub.proofs.Roomy.{rest_roomy}
use Rattle.sum_uses.specs.declared.added.Added.{Added}
use Rattle.script_text.specs.declared.line.Line.{Line}
use Rattle.script_text.specs.declared.line.Operation.TheVariants.{Fork}
use Rattle.script_text.specs.declared.table.Fate.TheVariants as fate
use Rattle.script_text.specs.Operations.{none_held, held_after, none_forked, forked_after, forked_with, is_born, Forked, MayCome, MayFollow}
use Rattle.script_text.proofs.Follow.{forked_append, follow_split}
use Rattle.script_text.specs.Runs.{lines_of, total}
use Rattle.script_text.specs.Visits.{AreLeft, no_hand}
use Rattle.script_run.specs.Playing.{Player, HasNumber, IsPlaying, visits_of}
use Rattle.script_run.specs.Regions.{below}
use Rattle.script_run.proofs.Calls.{after_quiet, elem_low}
use Rattle.script_run.proofs.Plays.{passed}
use Rattle.script_run.proofs.Births.{Lacks, fork_line, unborn_below, meets, no_lines, no_holding}
use Rattle.script_run.proofs.Whole.{comes_at, no_links}

pub one_more : (xs : List Line) (i : ℕ) (x : Line) → slice_get xs i ≡ Some x → take (i + 1) xs ≡ take i xs ++ x ∷ []
one_more xs i x at = take_more xs i x (slice_get_within xs i x at) ∙ ap (λ y. take i xs ++ y ∷ []) (get_or_from_slice_get xs i x x at)

pub comes : (l : Layout) (xs : List Line) (i : ℕ) (x : Line) → MayFollow l none_held none_forked xs → slice_get xs i ≡ Some x
    → MayFollow l none_held none_forked (take i xs) × MayCome l (held_after none_held (take i xs)) (forked_after none_forked (take i xs)) x
comes l xs i x follow at =
    let r = comes_at l xs i x follow (slice_get_within xs i x at) in
    (r.0, subst (λ (y : Line). MayCome l (held_after none_held (take i xs)) (forked_after none_forked (take i xs)) y) (get_or_from_slice_get xs i x x at) r.1)

pub forking : (p : Shape (Prim.Unit {0})) (xs : List Line) (i u : ℕ) (numbers : List ℕ) (a b : Player) → slice_get xs i ≡ Some (fork_line a.number u) → IsPlaying p a.number (take i xs) numbers a
    → AtRest p b → IsSame a b → Adds [] (fork_event a.number u) a b → b.held ≡ a.held → b.share ≡ a.share → b.stints ≡ a.stints → IsPlaying p a.number (take (i + 1) xs) numbers b
forking p xs i u numbers a b at s rest same adds held share stints =
    subst (λ (ys : List Line). IsPlaying p a.number ys numbers b) (sym (one_more xs i (fork_line a.number u) at))
    (after_quiet p (take i xs) numbers a (fork_line a.number u) s refl (Fork (record { 0 = u })) (fork_event a.number u) b refl refl (refl, refl) refl (λ m. refl) rest same adds held share stints)

-- a thread that has reserved room for its events is where it was
pub playing_roomy : (p : Shape (Prim.Unit {0})) (t : ℕ) (xs : List Line) (numbers : List ℕ) (room : ℕ) (k : Player) → IsPlaying p t xs numbers k → IsPlaying p t xs numbers (with_room_for room k)
playing_roomy p t xs numbers room k i = record {
  hand = i.hand;
  line = record {
    rest = rest_roomy p room k i.line.rest;
    number = i.line.number;
    world = i.line.world;
    size = i.line.size;
    held_size = i.line.held_size;
    before = i.line.before;
    visits = i.line.visits;
    are = i.line.are;
    mine = i.line.mine;
    stints = i.line.stints;
    agrees = i.line.agrees;
    share = i.line.share;
    is_share = i.line.is_share;
    linked = i.line.linked;
    each = i.line.each;
  };
}

-- a thread that was begun has played these, of which none is its own
pub begun : (p : Shape (Prim.Unit {0})) (xs : List Line) (u : ℕ) (numbers : List ℕ) (a k : Player) → lines_of u xs ≡ [] → ((m : ℕ) → held_after none_held xs u m ≡ false) → length numbers ≡ 64 → a.world ≡ Some tt
    → IsBegun p (λ w n. let s : List Added = [] in s) u a k → IsPlaying p u xs numbers k
begun p xs u numbers a k none free size world b = record {
  hand = no_hand;
  line = record {
    rest = b.rest;
    number = b.number;
    world = b.world ∙ world;
    size = size;
    held_size = record { room = (let r = elem_low k.held 63 None (b.lacks 63 (omega arith)) in omega arith); none = λ m x high at. b.none m x at };
    before = [];
    visits = [];
    are = (let P : List Line → Type 0 = λ ys. AreLeft u ys [] no_hand [] no_hand in subst P (sym none) (refl, refl, refl));
    mine = b.mine;
    stints = ap visits_of b.stints;
    agrees = λ m x at. absurd (b.none m x at);
    share = [];
    is_share = b.share ∙ ap (first_share (λ w n. let s : List Added = [] in s) u) world;
    linked = no_links k.stints b.stints;
    each = λ m low.
        let P : Bool → Type 0 = λ c. HasNumber c k.held m (get_or numbers m 0) [] (total (lines_of u xs) m) in
        subst P (sym (free m)) (b.lacks m low, ap (λ ys. total ys m) (sym none));
  };
}

pub forked : (p : Shape (Prim.Unit {0})) (l : Layout) (xs : List Line) (i t u : ℕ) (numbers : List ℕ) (a k : Player) → l.version ≡ Two → MayFollow l none_held none_forked xs → slice_get xs i ≡ Some (fork_line t u)
    → length numbers ≡ 64 → a.world ≡ Some tt → IsBegun p (λ w n. let s : List Added = [] in s) u a k → IsPlaying p u (take (i + 1) xs) numbers k
forked p l xs i t u numbers a k two follow at size world b =
    let x = fork_line t u in
    let c = comes l xs i x follow at in
    let f = forked_after none_forked (take i xs) in
    let m = meets l.version f t (fate.Begins (record { 0 = u })) two c.1.live in
    let other : t ≢ u = λ e. false≢true (sym m.1 ∙ ap (is_born f) (sym e) ∙ m.0) in
    let s = begun p (take i xs) u numbers a k (no_lines l none_held none_forked (take i xs) u two c.0 m.1) (λ n. no_holding l none_held none_forked (take i xs) u n two c.0 m.1) size world b in
    subst (λ (ys : List Line). IsPlaying p u ys numbers k) (sym (one_more xs i x at)) (passed p u (take i xs) x numbers k other s)

born_here : (f : Forked) (u : ℕ) → is_born (forked_with f (fate.Begins (record { 0 = u }))) u ≡ true
born_here f u = elim (eqb_tells u 0) [ inl e ↦ rw e.0 refl | inr e ↦ rw (e.0, eq-eqb u u refl) refl ]

-- no later line forks u again
pub not_again : (l : Layout) (xs : List Line) (i t u : ℕ) → l.version ≡ Two → MayFollow l none_held none_forked xs → slice_get xs i ≡ Some (fork_line t u) → Lacks u (below (drop (i + 1) xs) u)
not_again l xs i t u two follow at =
    let up = take (i + 1) xs in
    let f = forked_after none_forked (take i xs) in
    let P : List Line → Type 0 = λ ys. MayFollow l none_held none_forked ys in
    let s = follow_split l none_held none_forked up (drop (i + 1) xs) (subst P (sym (take-append-drop (i + 1) xs)) follow) in
    let born : is_born (forked_after none_forked up) u ≡ true = ap (λ ys. is_born (forked_after none_forked ys) u) (one_more xs i (fork_line t u) at) ∙ ap (λ g. is_born g u) (forked_append none_forked (take i xs) (fork_line t u ∷ [])) ∙ born_here f u in
    unborn_below l (held_after none_held up) (forked_after none_forked up) (drop (i + 1) xs) u two s.1 born u
