-- The bytes that a set keeps.
use Rattle.std.proofs.Common.{◌≡◌, inl, inr, ℕ, zero, suc, ◌+◌, ◌<◌, Bool, true, false, nat_eq, List, [], ◌∷◌, ◌++◌, length, length-append, refl, sym, ap, subst, ◌∙◌, map, ◌||◌, if◌then◌else◌, arith, Some}
use Rattle.std.specs.List.{slice_get, list_any}
use Rattle.std.specs.Cmp.Lexicographic.{pointwise}
use Rattle.std.proofs.lemmas.List.{map-append, length-map}
use Rattle.std.proofs.lemmas.Slice.Eq.{slice_eq-Decides}
use Rattle.std.proofs.lemmas.Bool.Decides.{Decides-eqb}
use Rattle.indexmap.specs.IndexSet.{insert_key}
use Rattle.smallvec.specs.SmallVec.{SmallVec}
use Rattle.larch_actions.specs.declared.event.Layout.{Layout}
use Rattle.script_search.specs.declared.found.Found.{Found}
use Rattle.script_search.specs.Boards.{Moment}
use Rattle.script_search.specs.Keys.{key_of, moment_in}
use Rattle.script_search.specs.Founds.{keys_of, moments_of, IsThere, IsKeyed, Pushes, Adds, IsAlone}

false_true : false ≡ true → ⊥
false_true e = cc

or_left : (a b : Bool) → a ≡ true → (a || b) ≡ true
or_left true b e = refl
or_left false b e = absurd (false_true e)

-- whether a list of numbers is among those of a set, by the test of the set
pub found_there : (a : List ℕ) (keys : List (SmallVec ℕ)) → list_any (λ y. pointwise nat_eq a y.items) keys ≡ true → IsThere (map (λ v. v.items) keys) a
found_there a [] h = absurd (false_true h)
found_there a (y ∷ ys) h = by (pointwise nat_eq a y.items) refl (λ e. found_there a ys (sym (ap (λ b. b || list_any (λ z. pointwise nat_eq a z.items) ys) e) ∙ h))
  where
    by : (b : Bool) → pointwise nat_eq a y.items ≡ b → (pointwise nat_eq a y.items ≡ false → IsThere (map (λ v. v.items) ys) a) → IsThere (map (λ v. v.items) (y ∷ ys)) a
    by true e rest = (zero, ap Some (sym ((slice_eq-Decides Decides-eqb a y.items (pointwise nat_eq a y.items) refl).0 e)))
    by false e rest = let r = rest e in (suc r.0, r.1)

pub absent_there : (a : List ℕ) (keys : List (SmallVec ℕ)) → list_any (λ y. pointwise nat_eq a y.items) keys ≡ false → IsThere (map (λ v. v.items) keys) a → ⊥
absent_there a [] h there = absurd (cc (there.1))
absent_there a (y ∷ ys) h (zero, at) =
    let same : y.items ≡ a = cc at in
    false_true (sym h ∙ or_left (pointwise nat_eq a y.items) (list_any (λ z. pointwise nat_eq a z.items) ys) ((slice_eq-Decides Decides-eqb a y.items (pointwise nat_eq a y.items) refl).1 (sym same)))
absent_there a (y ∷ ys) h (suc k, at) =
    absent_there a ys (second (pointwise nat_eq a y.items) (list_any (λ z. pointwise nat_eq a z.items) ys) h) (k, at)
  where
    second : (p q : Bool) → (p || q) ≡ false → q ≡ false
    second true q e = absurd (false_true (sym e))
    second false q e = e

-- a new list of numbers goes last
pub keys_more : (keys : List (SmallVec ℕ)) (key : SmallVec ℕ) → (IsThere (map (λ v. v.items) keys) key.items → ⊥)
    → map (λ v. v.items) (insert_key (λ x y. pointwise nat_eq x.items y.items) keys key) ≡ map (λ v. v.items) keys ++ key.items ∷ []
keys_more keys key absent = by (list_any (λ y. pointwise nat_eq key.items y.items) keys) refl
  where
    by : (b : Bool) → list_any (λ y. pointwise nat_eq key.items y.items) keys ≡ b
        → map (λ v. v.items) (insert_key (λ x y. pointwise nat_eq x.items y.items) keys key) ≡ map (λ v. v.items) keys ++ key.items ∷ []
    by true e = absurd (absent (found_there key.items keys e))
    by false e = ap (λ b. map (λ (v : SmallVec ℕ). v.items) (if b then keys else keys ++ key ∷ [])) e ∙ map-append (λ (v : SmallVec ℕ). v.items) keys (key ∷ [])

pub there_same : {X : Type 0} (xs ys : List X) (x y : X) → xs ≡ ys → x ≡ y → IsThere xs x → IsThere ys y
there_same {X} xs ys x y e f (k, at) = (k, sym (ap (λ (z : List X). slice_get z k) e) ∙ (at ∙ ap Some f))

-- a board for each key
pub as_many : (f : Found) → length (moments_of f) ≡ length f.keys.keys
as_many f = length-map (keys_of f) (moment_in f.layout) ∙ length-map f.keys.keys (λ (v : SmallVec ℕ). v.items)

-- a new key was added
module _ (f g : Found) (key : SmallVec ℕ) (parent : ℕ) (layout : g.layout ≡ f.layout) (limit : g.limit ≡ f.limit)
    (absent : IsThere (keys_of f) key.items → ⊥) (kept : g.keys.keys ≡ insert_key (λ x y. pointwise nat_eq x.items y.items) f.keys.keys key)
    (parents : g.parents.items ≡ f.parents.items ++ parent ∷ []) where
  keys_now : keys_of g ≡ keys_of f ++ key.items ∷ []
  keys_now = ap (map (λ (v : SmallVec ℕ). v.items)) kept ∙ keys_more f.keys.keys key absent

  moments_now : moments_of g ≡ moments_of f ++ moment_in f.layout key.items ∷ []
  moments_now = (λ i. map (moment_in (layout i)) (keys_now i)) ∙ map-append (moment_in f.layout) (keys_of f) (key.items ∷ [])

  pub pushed : Pushes f g (moment_in f.layout key.items) parent
  pushed = record { moments = moments_now; parents = parents; layout = layout; limit = limit }

  pub pushed_keyed : IsKeyed f → key_of (moment_in f.layout key.items) ≡ key.items → length (moments_of f) < f.limit → IsKeyed g
  pushed_keyed keyed whole room =
      let m = moment_in f.layout key.items in
      let size = ap length moments_now ∙ length-append (moments_of f) (m ∷ []) in
      record {
        keys = keys_now ∙ ((λ i. keyed.keys i ++ sym whole i ∷ []) ∙ sym (ap (map key_of) moments_now ∙ map-append key_of (moments_of f) (m ∷ [])));
        parents = ap length parents ∙ (length-append f.parents.items (parent ∷ []) ∙ (ap (λ n. n + 1) keyed.parents ∙ sym size));
        within = omega (arith, size, room, limit);
      }

none_there : {X : Type 0} (k : ℕ) (x : X) → slice_get [] k ≡ Some x → ⊥
none_there k x at = cc

-- the first board was added where none was
pub alone : (f g : Found) (l : Layout) (m : Moment) (limit : ℕ) → moments_of f ≡ [] → f.parents.items ≡ [] → f.layout ≡ l → f.limit ≡ limit → IsKeyed g → Adds f g m 0 → IsAlone g l m limit
alone f g l m limit none parents layout is keyed adds = elim adds [
  | inl there ↦ absurd (none_there there.0.0 (key_of m) (subst (λ (ms : List Moment). slice_get (map key_of ms) there.0.0 ≡ Some (key_of m)) none there.0.1))
  | inr new ↦ record {
    keyed = keyed;
    moments = new.1.moments ∙ ap (λ (ms : List Moment). ms ++ m ∷ []) none;
    parents = new.1.parents ∙ ap (λ (ps : List ℕ). ps ++ 0 ∷ []) parents;
    layout_is = new.1.layout ∙ layout;
    limit_is = new.1.limit ∙ is;
  }
]
