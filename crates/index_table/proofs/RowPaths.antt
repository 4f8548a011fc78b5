-- The paths of rows are those of their hits.
use Rattle.std.proofs.Common.{◌≡◌, ℕ, zero, suc, ◌<◌, List, [], ◌∷◌, length, get_or, arith, sym, subst, ⊎_elim}
use Rattle.std.specs.List.{Contains, flat_map}
use Rattle.std.proofs.lemmas.List.{map-append}
use Rattle.std.proofs.lemmas.List.Elements.{Contains-get_or, Contains-append_left, Contains-append_right, Contains-append_cases}
use Rattle.word_index.specs.Index.{Hit, Row}
use Rattle.index_table.specs.Rows.{rows_with, paths_of, HasPath}

-- the only element
pub lone : {X : Type 0} (x y : X) → Contains (x ∷ []) y → x ≡ y
lone x y h = by h.0 h.1 h.2
  where
    by : (k : ℕ) → k < 1 → get_or (x ∷ []) k y ≡ y → x ≡ y
    by zero below e = e
    by (suc k) below e = absurd (omega (arith, below))

pub first_of_list : {X : Type 0} (x : X) (xs : List X) → Contains (x ∷ xs) x
first_of_list x xs = Contains-append_left (x ∷ []) xs x (Contains-get_or (x ∷ []) 0 x (omega arith))

abbrev joined : List (List Hit) → List Hit
joined hs = flat_map (λ h. h) hs

pub paths_to : (ws : List (List ℕ)) (hs : List (List Hit)) (p : List ℕ) → HasPath (rows_with ws hs) p → Contains (paths_of (joined hs)) p
paths_to [] hs p has = absurd (omega (arith, has.1.1))
paths_to (w ∷ ws) [] p has = absurd (omega (arith, has.1.1))
paths_to (w ∷ ws) (h ∷ hs) p has =
    let row : Row = record { word = w; hits = h } in
    let all = map-append (λ (x : Hit). x.path) h (joined hs) in
    ⊎_elim
    (λ here. subst (λ l. Contains l p) (sym all) (Contains-append_left (paths_of h) (paths_of (joined hs)) p (subst (λ (r : Row). Contains (paths_of r.hits) p) (sym (lone row has.0 here)) has.2)))
    (λ there. subst (λ l. Contains l p) (sym all) (Contains-append_right (paths_of h) (paths_of (joined hs)) p (paths_to ws hs p (has.0, there, has.2))))
    (Contains-append_cases (row ∷ []) (rows_with ws hs) has.0 has.1)

pub paths_from : (ws : List (List ℕ)) (hs : List (List Hit)) (p : List ℕ) → length ws ≡ length hs → Contains (paths_of (joined hs)) p → HasPath (rows_with ws hs) p
paths_from [] [] p same has = absurd (omega (arith, has.1))
paths_from [] (h ∷ hs) p same has = absurd (omega (arith, same))
paths_from (w ∷ ws) [] p same has = absurd (omega (arith, same))
paths_from (w ∷ ws) (h ∷ hs) p same has =
    let row : Row = record { word = w; hits = h } in
    let all = map-append (λ (x : Hit). x.path) h (joined hs) in
    ⊎_elim
    (λ here. (row, first_of_list row (rows_with ws hs), here))
    (λ there. let rest = paths_from ws hs p (omega (arith, same)) there in (rest.0, Contains-append_right (row ∷ []) (rows_with ws hs) rest.0 rest.1, rest.2))
    (Contains-append_cases (paths_of h) (paths_of (joined hs)) p (subst (λ l. Contains l p) all has))
