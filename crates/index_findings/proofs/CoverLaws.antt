-- The paths that pieces and a batch cover.
use Rattle.std.proofs.Common.{◌≡◌, List, [], ◌∷◌, ◌++◌, inl, inr, ◌⊎◌, arith, sym, ap, subst, ◌∙◌}
use Rattle.std.specs.Prelude.{Contains, IsPermutation, None, length, ◌↔◌}
use Rattle.std.proofs.lemmas.List.{map-append}
use Rattle.std.proofs.lemmas.List.Elements.{Contains-append_cases, Contains-append_left, Contains-append_right}
use Rattle.std.proofs.lemmas.List.Sorted.{Contains-permutation}
use Rattle.firefly_outside.specs.Trees.{Path, child}
use Rattle.firefly_outside.specs.declared.tree.FileBytes.{FileBytes}
use Rattle.walker.proofs.Children.{child_name}
use Rattle.walker.proofs.ListLemmas.{All-from, Contains-cons_cases, Contains-head, Contains-nil, Contains-tail}
use Rattle.word_index.specs.Batch.{Held, HoldsFiles}
use Rattle.word_index.specs.Index.{File, Index, IsIndexOf}
use Rattle.word_index.specs.Read.{read_file}
use Rattle.index_findings.specs.declared.read_files.ReadFile.{ReadFile}
use Rattle.index_findings.specs.ReadFiles.{AreRead, IsHeldAt, IsRead, IsReadAt}
use Rattle.index_findings.specs.Pieces.{IsCovered}
use Rattle.index_findings.proofs.PieceLaws.{covered_cases, covered_prefix, covered_last}

-- where no tree tells, all were read so
pub none_reported : (files : List ReadFile) → AreRead None files
none_reported files = All-from (λ (r : ReadFile). IsRead None r.path r.file) files (λ r h. tt)

-- the piece of a batch covers the paths of the batch
pub batch_covered : (b : Held) (piece : Index) (old new : List Index) (fs : List File) → HoldsFiles fs b → IsIndexOf fs piece → new ≡ old ++ piece ∷ [] → (path : Path) → IsCovered new path ↔ IsHeldAt old b path
batch_covered b piece old new fs holds index is path = (
  (λ h. elim (covered_cases old piece path (subst (λ (l : List Index). IsCovered l path) is h)) [
    | inl first ↦ inl first
    | inr last ↦ inr (subst (λ (ps : List Path). Contains ps path) (sym holds.paths) ((index.paths path).0 last))
  ]),
  (λ h. subst (λ (l : List Index). IsCovered l path) (sym is) (elim h [
    | inl first ↦ covered_prefix old piece path first
    | inr last ↦ covered_last old piece path ((index.paths path).1 (subst (λ (ps : List Path). Contains ps path) holds.paths last))
  ])),
)

-- the batch with one file more has its path more
pub more_paths : (b c : Held) (name : Path) (file : FileBytes) (fs : List File) → HoldsFiles fs b → HoldsFiles (fs ++ read_file name file ∷ []) c → c.paths ≡ b.paths ++ name ∷ []
more_paths b c name file fs was now = now.paths ∙ (map-append (λ (f : File). f.path) fs (read_file name file ∷ []) ∙ ap (λ (ps : List Path). ps ++ name ∷ []) (sym was.paths))

only : (name path : Path) → Contains (name ∷ []) path → name ≡ path
only name path h = elim (Contains-cons_cases name [] path h) [ inl e ↦ e | inr m ↦ absurd (Contains-nil path m) ]

module _ (root text name : Path) (is : text ≡ child root name) (path : Path) where
  pub added_covered : (pieces : List Index) (b c : Held) (file : FileBytes) (fs : List File) → HoldsFiles fs b → HoldsFiles (fs ++ read_file name file ∷ []) c
      → IsHeldAt pieces c path ↔ (IsHeldAt pieces b path ⊎ (text ≡ child root path))
  added_covered pieces b c file fs was now =
      let more = more_paths b c name file fs was now in (
        (λ h. elim h [
          | inl p ↦ inl (inl p)
          | inr m ↦ elim (Contains-append_cases b.paths (name ∷ []) path (subst (λ (ps : List Path). Contains ps path) more m)) [
            | inl old ↦ inl (inr old)
            | inr new ↦ inr (is ∙ ap (child root) (only name path new))
          ]
        ]),
        (λ h. elim h [
          | inl old ↦ elim old [
            | inl p ↦ inl p
            | inr m ↦ inr (subst (λ (ps : List Path). Contains ps path) (sym more) (Contains-append_left b.paths (name ∷ []) path m))
          ]
          | inr e ↦ inr (subst (λ (ps : List Path). Contains ps path) (sym more)
              (Contains-append_right b.paths (name ∷ []) path (subst (Contains (name ∷ [])) (child_name root name path (sym is ∙ e)) (Contains-head name []))))
        ]),
      )

  -- the same where the batch before became a piece
  pub begun_covered : (old new : List Index) (b a c : Held) (file : FileBytes) → HoldsFiles [] a → HoldsFiles ([] ++ read_file name file ∷ []) c → IsCovered new path ↔ IsHeldAt old b path
      → IsHeldAt new c path ↔ (IsHeldAt old b path ⊎ (text ≡ child root path))
  begun_covered old new b a c file none one put =
      let more = added_covered new a c file [] none one in (
        (λ h. elim (more.0 h) [
          | inl was ↦ inl (elim was [ inl p ↦ put.0 p | inr m ↦ absurd (Contains-nil path (subst (λ (ps : List Path). Contains ps path) none.paths m)) ])
          | inr e ↦ inr e
        ]),
        (λ h. more.1 (elim h [ inl was ↦ inl (inl (put.1 was)) | inr e ↦ inr e ])),
      )

-- a file that doesn't lie below the root gives no path
pub outside_covered : (root text path : Path) (pieces : List Index) (b : Held) → ((name : Path) → text ≡ child root name → ⊥) → IsHeldAt pieces b path ↔ (IsHeldAt pieces b path ⊎ (text ≡ child root path))
outside_covered root text path pieces b never = ((λ h. inl h), (λ h. elim h [ inl was ↦ was | inr e ↦ absurd (never path e) ]))

module _ (root path : Path) where
  read_first : (r : ReadFile) (rs : List ReadFile) → r.path ≡ child root path → IsReadAt root (r ∷ rs) path
  read_first r rs e = record { read = r; among = Contains-head r rs; is = e }

  read_later : (r : ReadFile) (rs : List ReadFile) → IsReadAt root rs path → IsReadAt root (r ∷ rs) path
  read_later r rs h = record { read = h.read; among = Contains-tail r rs h.read h.among; is = h.is }

  read_cases : (r : ReadFile) (rs : List ReadFile) → IsReadAt root (r ∷ rs) path → (r.path ≡ child root path) ⊎ IsReadAt root rs path
  read_cases r rs h = elim (Contains-cons_cases r rs h.read h.among) [
    | inl e ↦ inl (ap (λ (q : ReadFile). q.path) e ∙ h.is)
    | inr m ↦ inr (record { read = h.read; among = m; is = h.is })
  ]

  read_none : (rs : List ReadFile) → length rs ≡ 0 → IsReadAt root rs path → ⊥
  read_none [] none h = Contains-nil h.read h.among
  read_none (r ∷ rs) none h = omega arith

  pub read_sorted : (xs ys : List ReadFile) → IsPermutation xs ys → IsReadAt root xs path → IsReadAt root ys path
  read_sorted xs ys same h = record { read = h.read; among = Contains-permutation xs ys h.read same h.among; is = h.is }

  -- none is held yet, and all are to come
  pub none_covered : (all : List ReadFile) (pieces : List Index) (b : Held) → pieces ≡ [] → b.paths ≡ [] → (IsHeldAt pieces b path ⊎ IsReadAt root all path) ↔ IsReadAt root all path
  none_covered all pieces b no_pieces no_paths = (
    (λ h. elim h [
      | inl held ↦ absurd (elim held [
        | inl p ↦ (let k = subst (λ (l : List Index). IsCovered l path) no_pieces p in Contains-nil k.piece k.among)
        | inr m ↦ Contains-nil path (subst (λ (ps : List Path). Contains ps path) no_paths m)
      ])
      | inr left ↦ left
    ]),
    (λ h. inr h),
  )

  -- with one more of those that were to come
  pub turn_covered : (all old rest : List ReadFile) (x : ReadFile) (ps qs : List Index) (b c : Held) → old ≡ x ∷ rest → (IsHeldAt ps b path ⊎ IsReadAt root old path) ↔ IsReadAt root all path
      → IsHeldAt qs c path ↔ (IsHeldAt ps b path ⊎ (x.path ≡ child root path)) → (IsHeldAt qs c path ⊎ IsReadAt root rest path) ↔ IsReadAt root all path
  turn_covered all old rest x ps qs b c steps was one = (
    (λ h. was.0 (elim h [
      | inl held ↦ elim (one.0 held) [
        | inl before ↦ inl before
        | inr e ↦ inr (subst (λ (l : List ReadFile). IsReadAt root l path) (sym steps) (read_first x rest e))
      ]
      | inr left ↦ inr (subst (λ (l : List ReadFile). IsReadAt root l path) (sym steps) (read_later x rest left))
    ])),
    (λ h. elim (was.1 h) [
      | inl before ↦ inl (one.1 (inl before))
      | inr left ↦ elim (read_cases x rest (subst (λ (l : List ReadFile). IsReadAt root l path) steps left)) [
        | inl e ↦ inl (one.1 (inr e))
        | inr later ↦ inr later
      ]
    ]),
  )

  -- with none to come the last batch becomes a piece
  pub all_covered : (all left : List ReadFile) (old new : List Index) (b : Held) → length left ≡ 0 → (IsHeldAt old b path ⊎ IsReadAt root left path) ↔ IsReadAt root all path → IsCovered new path ↔ IsHeldAt old b path
      → IsCovered new path ↔ IsReadAt root all path
  all_covered all left old new b none was put = (
    (λ h. was.0 (inl (put.0 h))),
    (λ h. elim (was.1 h) [
      | inl held ↦ put.1 held
      | inr more ↦ absurd (read_none left none more)
    ]),
  )
