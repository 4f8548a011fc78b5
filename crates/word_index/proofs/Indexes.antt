-- The index of both sets of files.
use Rattle.std.proofs.Common.{◌≡◌, ℕ, List, ◌++◌, map, ◌⊎◌, inl, inr, ⊎_elim, ◌↔◌, subst, sym}
use Rattle.std.specs.List.{Contains}
use Rattle.std.proofs.lemmas.List.{map-append}
use Rattle.std.proofs.lemmas.List.Elements.{Contains-append_left, Contains-append_right, Contains-append_cases}
use Rattle.word_index.specs.Index.{File, Entry, Index, entries, IsEntryOf, IsSkippedOf, IsIndexOf, IsUnion}

entry_wide : (fs gs : List File) (e : Entry) → ((f : File) → Contains fs f → Contains gs f) → IsEntryOf fs e → IsEntryOf gs e
entry_wide fs gs e more h = record { file = h.file; among = more h.file h.among; short = h.short; path = h.path; counted = h.counted }

entry_split : (fs gs : List File) (e : Entry) → IsEntryOf (fs ++ gs) e → IsEntryOf fs e ⊎ IsEntryOf gs e
entry_split fs gs e h = ⊎_elim
    (λ k. inl (record { file = h.file; among = k; short = h.short; path = h.path; counted = h.counted }))
    (λ k. inr (record { file = h.file; among = k; short = h.short; path = h.path; counted = h.counted }))
    (Contains-append_cases fs gs h.file h.among)

skipped_wide : (fs gs : List File) (p : List ℕ) → ((f : File) → Contains fs f → Contains gs f) → IsSkippedOf fs p → IsSkippedOf gs p
skipped_wide fs gs p more h = record { file = h.file; among = more h.file h.among; long = h.long; here = h.here }

skipped_split : (fs gs : List File) (p : List ℕ) → IsSkippedOf (fs ++ gs) p → IsSkippedOf fs p ⊎ IsSkippedOf gs p
skipped_split fs gs p h = ⊎_elim
    (λ k. inl (record { file = h.file; among = k; long = h.long; here = h.here }))
    (λ k. inr (record { file = h.file; among = k; long = h.long; here = h.here }))
    (Contains-append_cases fs gs h.file h.among)

-- a fact on each side gives it on both
both : {Z A B A' B' C : Type 0} → (Z ↔ (A ⊎ B)) → (A ↔ A') → (B ↔ B') → (A' → C) → (B' → C) → (C → A' ⊎ B') → Z ↔ C
both z a b f g split = (
  (λ h. ⊎_elim (λ k. f (a.0 k)) (λ k. g (b.0 k)) (z.0 h)),
  (λ h. z.1 (⊎_elim (λ k. inl (a.1 k)) (λ k. inr (b.1 k)) (split h))),
)

pub index_of_both : (fs gs : List File) (a b p : Index) → IsIndexOf fs a → IsIndexOf gs b → IsUnion a b p → IsIndexOf (fs ++ gs) p
index_of_both fs gs a b p is_a is_b u = record {
  ordered = u.ordered;
  paths = λ x.
      let xs = map (λ (f : File). f.path) fs in
      let ys = map (λ (f : File). f.path) gs in
      let joined = map-append (λ (f : File). f.path) fs gs in
      subst (λ l. Contains p.paths x ↔ Contains l x) (sym joined)
      (both (u.paths x) (is_a.paths x) (is_b.paths x) (Contains-append_left xs ys x) (Contains-append_right xs ys x) (Contains-append_cases xs ys x));
  skipped = λ x. both (u.skipped x) (is_a.skipped x) (is_b.skipped x)
      (skipped_wide fs (fs ++ gs) x (Contains-append_left fs gs)) (skipped_wide gs (fs ++ gs) x (Contains-append_right fs gs)) (skipped_split fs gs x);
  entries = λ e. both (u.entries e) (is_a.entries e) (is_b.entries e)
      (entry_wide fs (fs ++ gs) e (Contains-append_left fs gs)) (entry_wide gs (fs ++ gs) e (Contains-append_right fs gs)) (entry_split fs gs e);
}
