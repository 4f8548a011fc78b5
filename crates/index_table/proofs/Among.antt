-- The paths of a draft are those of its hits.
use Rattle.std.proofs.Common.{◌≡◌, ◌⊎◌, ℕ, zero, suc, ◌<◌, min, Bool, true, false, List, [], ◌∷◌, ◌++◌, length, get_or, take, drop, map, arith, refl, sym, ap, subst, ◌∙◌, ⊎_elim, inl, inr, Option, Some, None, String, position}
use Rattle.std.specs.Prelude.{MatchBool}
use Rattle.std.specs.List.{Contains, flat_map, AllByRecursion}
use Rattle.std.specs.Str.{bytes_eq}
use Rattle.std.specs.String.{string_bytes}
use Rattle.std.specs.Map.{keys_of}
use Rattle.std.specs.Cmp.Lexicographic.{bytes_decides}
use Rattle.std.proofs.lemmas.Bool.{false≢true}
use Rattle.std.proofs.lemmas.List.{length-map, length-take, map-append, take-append-drop, get_or-map}
use Rattle.std.proofs.lemmas.List.Quantifiers.{position-Some}
use Rattle.std.proofs.lemmas.List.Elements.{All-contains, Contains-get_or, Contains-append_left, Contains-append_right, Contains-append_cases}
use Rattle.indexmap.proofs.MapLemmas.{Missing-position}
use Rattle.word_index.specs.Blocks.{parts, AreEnds}
use Rattle.word_index.specs.Index.{Hit}
use Rattle.word_index.proofs.Parts.{length_parts, parts_joined}
use Rattle.word_index.proofs.Images.{to_map, from_map}
use Rattle.word_index.proofs.Searches.{found}
use Rattle.index_table.specs.declared.draft.Figures.{Figures}
use Rattle.index_table.specs.Paths.{texts}
use Rattle.index_table.specs.Rows.{hits_of, paths_of, IsAmong, AreColumns, AreUsed}
use Rattle.index_table.proofs.Columns.{drafted, length_hits, paths_hits, ends_same}
use Rattle.index_table.proofs.RowPaths.{paths_to, paths_from}
use Rattle.index_table.proofs.Named.{texts_keys}

-- the same answer to another question
pub same_answer : (b : Bool) (P Q : Type 0) → (P → Q) → (Q → P) → MatchBool b P (¬ P) → MatchBool b Q (¬ Q)
same_answer true P Q to from h = to h
same_answer false P Q to from h = λ q. h (from q)

module _ (ps : List (List ℕ)) {words : List (List ℕ)} {ns : List ℕ} {fs : List Figures} {ends : List ℕ} {closed : ℕ} (are : AreColumns (length ps) words ns fs ends closed) where
  abbrev all : List Hit
  all = hits_of ps ns fs

  long : length all ≡ length ns
  long = length_hits ps ns fs are.same

  abbrev prefix : List Hit
  prefix = take closed all

  whole : paths_of prefix ++ paths_of (drop closed all) ≡ map (λ n. get_or ps n []) ns
  whole = sym (map-append (λ (h : Hit). h.path) prefix (drop closed all)) ∙ ap paths_of (take-append-drop closed all) ∙ paths_hits ps ns fs are.same

  fit : AreEnds prefix 0 ends
  fit = ends_same (take closed ns) prefix 0 ends (length-take closed ns ∙ ap (λ n. min closed n) (sym long) ∙ sym (length-take closed all)) are.fit

  abbrev cuts : List (List Hit)
  cuts = parts prefix 0 ends

  joined : flat_map (λ h. h) cuts ≡ prefix
  joined = parts_joined prefix 0 ends fit

  pub among_to : (skips : List (List ℕ)) → AreUsed (length ps) ns → (p : List ℕ) → Contains ps p → IsAmong (drafted ps words ns fs ends closed skips) p
  among_to skips used p here =
      let nth = λ (n : ℕ). get_or ps n [] in
      let there : Contains (map nth ns) p = subst (Contains (map nth ns)) (found ps p here) (to_map nth ns here.0 (used here.0 here.1)) in
      ⊎_elim
      (λ h. inl (paths_from words cuts p (are.each ∙ sym (length_parts prefix 0 ends)) (subst (λ (l : List Hit). Contains (paths_of l) p) (sym joined) h)))
      (λ h. inr h)
      (Contains-append_cases (paths_of prefix) (paths_of (drop closed all)) p (subst (λ l. Contains l p) (sym whole) there))

  pub among_from : (skips : List (List ℕ)) → (p : List ℕ) → IsAmong (drafted ps words ns fs ends closed skips) p → Contains ps p
  among_from skips p has =
      let nth = λ (n : ℕ). get_or ps n [] in
      let there = ⊎_elim
      (λ h. Contains-append_left (paths_of prefix) (paths_of (drop closed all)) p (subst (λ (l : List Hit). Contains (paths_of l) p) joined (paths_to words cuts p h)))
      (λ h. Contains-append_right (paths_of prefix) (paths_of (drop closed all)) p h)
      has in
      let n = from_map nth ns p (subst (λ l. Contains l p) whole there) in
      subst (Contains ps) n.2 (Contains-get_or ps n.0 [] (All-contains (λ m. m < length ps) ns n.0 are.within n.1))

-- a place was found
pub there_is : {A : Type 0} (es : List (String A × ℕ)) (p : List ℕ) (at : ℕ) → Some at ≡ position (λ k. bytes_eq p (string_bytes k)) (keys_of es) → Contains (texts es) p
there_is [] p at is = absurd (cc)
there_is {A} (d ∷ rest) p at is =
    let es = d ∷ rest in
    let h = position-Some (λ (k : String A). bytes_eq p (string_bytes k)) (keys_of es) at d.0 (sym is) in
    let within : at < length es = omega (arith, h.0, length-map es (λ (e : String A × ℕ). e.0)) in
    let key : get_or (keys_of es) at d.0 ≡ (get_or es at d).0 = get_or-map (λ (e : String A × ℕ). e.0) es at d d.0 within in
    let same : p ≡ string_bytes (get_or es at d).0 = (bytes_decides p (string_bytes (get_or es at d).0)).0 (subst (λ k. bytes_eq p (string_bytes k) ≡ true) key h.1) in
    subst (Contains (texts es)) (sym same) (to_map (λ (e : String A × ℕ). string_bytes e.0) es (get_or es at d) (Contains-get_or es at d within))

-- what holds of each holds of one that is there
holds_there : {X : Type 0} (P : X → Type 0) (xs : List X) (x : X) → AllByRecursion P xs → Contains xs x → P x
holds_there P [] x all has = absurd (omega (arith, has.1))
holds_there {X} P (y ∷ xs) x all has = by (λ h. holds_there P xs x all.1 h) has.0 has.1 has.2
  where
    by : (Contains xs x → P x) → (k : ℕ) → k < length (y ∷ xs) → get_or (y ∷ xs) k x ≡ x → P x
    by rest zero below e = subst P e all.0
    by rest (suc k) below e = rest (k, omega (arith, below), e)

-- no place was found
pub not_there : {A : Type 0} (es : List (String A × ℕ)) (p : List ℕ) → position (λ k. bytes_eq p (string_bytes k)) (keys_of es) ≡ None → ¬ Contains (texts es) p
not_there {A} es p none has =
    let n = from_map (λ (k : String A). string_bytes k) (keys_of es) p (subst (λ (l : List (List ℕ)). Contains l p) (sym (texts_keys es)) has) in
    let absent = (Missing-position (λ k. bytes_eq p (string_bytes k)) es none).absent in
    false≢true (sym (holds_there (λ k. bytes_eq p (string_bytes k) ≡ false) (keys_of es) n.0 absent n.1) ∙ (bytes_decides p (string_bytes n.0)).1 (sym n.2))
