-- The lines up to a place, and the whole of one thread's part.
use Rattle.std.proofs.Common.{◌≡◌, ℕ, ◌<◌, inl, inr, List, [], length, get_or, take, drop, append-nil, refl, ap, sym, subst, ◌∙◌, true, false, Bool, Some, None, Option as Opt, arith}
use Rattle.std.proofs.lemmas.List.{take-append-drop}
use Rattle.std.proofs.Math.Seq.{drop-cons}
use Rattle.std.proofs.lemmas.Bool.{cases_lt}
use mathlib.Core.Option.{some, some-injective}
use lib.ListN.{get_elem?}
use Rattle.larch_actions.specs.declared.event.Event.{Event}
use Rattle.larch_actions.specs.declared.event.Layout.{Layout}
use Rattle.nub_rule.specs.Known.{Shape}
use Rattle.nub_rule.specs.declared.view.Stint.{Stint}
use Rattle.nub.specs.Ended.{IsFirst}
use Rattle.sum_uses.specs.declared.added.Added.{Added}
use Rattle.sum_uses.specs.Sums.{added}
use Rattle.script_text.specs.declared.line.Line.{Line}
use Rattle.script_text.specs.Operations.{none_held, held_after, MayCome, MayFollow, none_forked, forked_after}
use Rattle.script_run.specs.Playing.{Player, AreLinked, HasNumber, IsPlaying, IsPlayed, IsWide, visits_of}
use Rattle.script_text.specs.Runs.{lines_of, total}
use Rattle.script_text.specs.Visits.{AreLeft, Visit, no_hand}
use Rattle.script_text.specs.Text.{IsScript}
use Rattle.script_text.proofs.Follow.{follow_split}

-- the same under equal names
pub moved : (p : Shape (Prim.Unit {0})) (t u : ℕ) (xs ys : List Line) (n k : List ℕ) (a b : Player) → t ≡ u → xs ≡ ys → k ≡ n → b ≡ a → IsPlaying p t xs n a → IsPlaying p u ys k b
moved p t u xs ys n k a b et ex en eb s =
    let T : ℕ → Type 0 = λ v. IsPlaying p v ys k b in
    let X : List Line → Type 0 = λ zs. IsPlaying p t zs k b in
    let N : List ℕ → Type 0 = λ m. IsPlaying p t xs m b in
    let B : Player → Type 0 = λ c. IsPlaying p t xs n c in
    subst T et (subst X ex (subst N (sym en) (subst B (sym eb) s)))

pub comes_at : (l : Layout) (xs : List Line) (i : ℕ) (d : Line) → MayFollow l none_held none_forked xs → i < length xs → MayFollow l none_held none_forked (take i xs) × MayCome l (held_after none_held (take i xs)) (forked_after none_forked (take i xs)) (get_or xs i d)
comes_at l xs i d f lt =
    let P : List Line → Type 0 = λ ys. MayFollow l none_held none_forked ys in
    let s = follow_split l none_held none_forked (take i xs) (drop i xs) (subst P (sym (take-append-drop i xs)) f) in
    let Q : List Line → Type 0 = λ ys. MayFollow l (held_after none_held (take i xs)) (forked_after none_forked (take i xs)) ys in
    (s.0, (subst Q (drop-cons xs i d lt) s.1).0)

-- no stint leaves the share
pub no_links : (ss : List (Stint ℕ (List Added))) → ss ≡ [] → AreLinked [] ss []
no_links ss none = let P : List (Stint ℕ (List Added)) → Type 0 = λ l. AreLinked [] l [] in subst P (sym none) refl

pub begins : (p : Shape (Prim.Unit {0})) (t : ℕ) (numbers : List ℕ) (me : Player) → length numbers ≡ 64 → IsFirst p (λ w n. let s : List Added = [] in s) t me → IsPlaying p t [] numbers me
begins p t numbers me size f = record {
  hand = no_hand;
  line = record {
    rest = f.rest;
    number = f.number;
    world = f.world;
    size = size;
    held_size = record { room = omega (arith, f.size); none = λ m x high at. f.none m x at };
    before = [];
    visits = [];
    are = (refl, refl, refl);
    mine = f.mine;
    stints = ap visits_of f.stints;
    agrees = λ m x at. absurd (f.none m x at);
    share = [];
    is_share = f.share;
    linked = no_links me.stints f.stints;
    each = λ m low. (f.lacks m low, refl);
  };
}

-- what has no number is not held
lacks_value : (b : Bool) (held : List (Opt ℕ)) (m number : ℕ) (share : List Added) (sum : ℕ) → b ≡ false → HasNumber b held m number share sum → (get_elem? held m ≡ some None) × (added m share ≡ sum)
lacks_value true held m number share sum e h = absurd (cc)
lacks_value false held m number share sum e h = h

none_some : (o : Opt ℕ) (x : ℕ) → o ≡ None → o ≡ Some x → ⊥
none_some o x e f = let h : (let n : Opt ℕ = None in n) ≡ Some x = sym e ∙ f in absurd (cc)

-- who has a value below 64 alone, has it there
below_wide : (held : List (Opt ℕ)) (m x : ℕ) → IsWide held → get_elem? held m ≡ some (Some x) → m < 64
below_wide held m x w at = elim (cases_lt m 64) [ inl p ↦ p | inr p ↦ absurd (w.none m x p at) ]

pub ends : (p : Shape (Prim.Unit {0})) (l : Layout) (t : ℕ) (xs : List Line) (numbers : List ℕ) (me : Player) → IsScript l xs → IsPlaying p t xs numbers me → IsPlayed p xs t me
ends p l t xs numbers me script s =
    let at : (m : ℕ) → m < 64 → (get_elem? me.held m ≡ some None) × (added m s.share ≡ total (lines_of t xs) m) = λ m low. lacks_value (held_after none_held xs t m) me.held m (get_or numbers m 0) s.share (total (lines_of t xs) m) (script.free t m) (s.each m low) in
    record {
      done = record {
        number = s.number;
        rest = s.rest;
        lacks = λ m x e.
            let low : m < 64 = below_wide me.held m x s.held_size e in
            let none = at m low in
            none_some (Some x) x (some-injective (Some x) None (sym e ∙ none.0)) refl;
      };
      visits = (
        s.hand,
        (let P : List Event → Type 0 = λ l. AreLeft t (lines_of t xs) l no_hand (visits_of me.stints) s.hand in
            let V : List Visit → Type 0 = λ vs. AreLeft t (lines_of t xs) s.before no_hand vs s.hand in
            subst P (sym (s.mine ∙ append-nil s.before)) (subst V (sym (s.stints ∙ append-nil s.visits)) s.are)),
      );
      share = s.share;
      is_share = s.is_share;
      linked = s.linked;
      sums = λ m low. (at m low).1;
    }
