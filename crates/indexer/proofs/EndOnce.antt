-- Each directory listed once and each file read once, by the workers and the closing walk.
use Rattle.std.proofs.Common.{◌≡◌, ℕ, ◌≤◌, Bool, true, false, List, [], ◌∷◌, ◌++◌, Option, Some, None, refl, sym, ap, subst, ◌∙◌, arith, Contains}
use Rattle.std.specs.Prelude.{IfSome, slice_index_or}
use Rattle.std.specs.List.{flat_map, list_any}
use Rattle.std.proofs.lemmas.Option.{same_Some}
use Rattle.firefly_outside.specs.Trees.{Path, Contents, Calls}
use Rattle.firefly_outside.specs.Under.{IsUnder}
use Rattle.firefly_outside.specs.declared.tree.Kind.TheVariants.{File, Dir}
use Rattle.nub.specs.Ended.{Ended}
use Rattle.walker.specs.declared.answer.WalkAnswer.{WalkAnswer}
use Rattle.walker.specs.declared.answer.WalkAnswer.TheVariants.{Done, Stopped, ReadFault, TooMany, Memory}
use Rattle.word_index.specs.Index.{Index}
use Rattle.index_findings.specs.Rest.{CallsRest, IsCoveredFile}
use Rattle.index_findings.specs.Visits.{dirs_listed}
use Rattle.index_findings.specs.declared.findings.Findings.{Findings}
use Rattle.index_findings.specs.declared.findings.Visit.{Visit}
use Rattle.index_rule.specs.declared.value.IndexValue.{IndexValue}
use Rattle.index_rule.specs.Shares.{Share}
use Rattle.indexer.specs.Once.{EachOnce, IsEachOnce, IsWorkedOnce}
use Rattle.indexer.specs.Says.{AllShow, answer_of}
use Rattle.indexer.proofs.OnceLaws.{all_listed, all_once, since_all}

not_memory : (piece : Index) → Done piece ≡ Memory → ⊥
not_memory piece e = cc

by_lost : {P : Type 0} (b : Bool) (piece : Index) → (b ≡ true → Done piece ≡ Memory) → (b ≡ false → P) → P
by_lost true piece lost go = absurd (not_memory piece (lost refl))
by_lost false piece lost go = go refl

module _ {S : Type 0} (tree : S → Option Contents) (calls : S → Calls) (root : Path) (n : ℕ) (closed : Ended IndexValue Share Path) (findings : List Findings) (old mid new : List (Option S)) where
  -- the workers' part and the rest
  both : (t : Contents) (own : S) → slice_index_or old n None ≡ Some own → (visits : List Visit) (pieces : List Index) (piece : Index) → IsWorkedOnce calls root n old mid visits pieces
      → ((i : ℕ) (d : Option S) → n ≤ i → slice_index_or mid i d ≡ slice_index_or old i d) → ((i : ℕ) (d : Option S) → (i ≡ n → ⊥) → slice_index_or new i d ≡ slice_index_or mid i d)
      → (last : S) → slice_index_or new n None ≡ Some last → CallsRest t root visits pieces (calls own) (calls last) (Done piece) → IsEachOnce calls t root n old new
  both t own is_own visits pieces piece worked above others last is_last rest =
      let listing = λ (p : Path). rest.dirs_all tt p in
      let reading = λ (p : Path). rest.files_all tt p in
      record {
        listed = worked.listed ++ rest.dirs ∷ [];
        listed_since = since_all calls (λ c. c.listed) n old new worked.listed rest.dirs worked.listed_many
            (λ k s r paths low was is at. worked.listed_since k s r paths low was (sym (others k None (λ same. omega arith)) ∙ is) at)
            (λ s r was is. closing (λ c. c.listed) rest.dirs rest.listed s r was is);
        listed_once = all_once (λ p. Contains (dirs_listed visits) p) (λ p. IsUnder t root Dir p) worked.listed rest.dirs worked.listed_once worked.listed_all rest.dirs_once rest.dirs_new listing;
        listed_all = all_listed (λ p. Contains (dirs_listed visits) p) (λ p. IsUnder t root Dir p) worked.listed rest.dirs worked.listed_once worked.listed_all rest.dirs_once rest.dirs_new listing;
        read = worked.read ++ rest.files ∷ [];
        read_since = since_all calls (λ c. c.files_read) n old new worked.read rest.files worked.read_many
            (λ k s r paths low was is at. worked.read_since k s r paths low was (sym (others k None (λ same. omega arith)) ∙ is) at)
            (λ s r was is. closing (λ c. c.files_read) rest.files rest.read s r was is);
        read_once = all_once (λ p. IsCoveredFile root pieces p) (λ p. IsUnder t root File p) worked.read rest.files worked.read_once worked.read_all rest.files_once rest.files_new reading;
        read_all = all_listed (λ p. IsCoveredFile root pieces p) (λ p. IsUnder t root File p) worked.read rest.files worked.read_once worked.read_all rest.files_once rest.files_new reading;
      }
    where
      closing : (of : Calls → List Path) (more : List Path) → of (calls last) ≡ of (calls own) ++ more → (s r : S) → slice_index_or old n None ≡ Some s → slice_index_or new n None ≡ Some r → of (calls r) ≡ of (calls s) ++ more
      closing of more e s r was is =
          let a = same_Some own s (sym is_own ∙ was) in
          let b = same_Some last r (sym is_last ∙ is) in
          ap (λ (x : S). of (calls x)) (sym b) ∙ (e ∙ ap (λ (x : S). of (calls x) ++ more) a)

  module _ (o : Option Contents) (own : S) (is_own : slice_index_or old n None ≡ Some own) (shows : AllShow tree o old)
      (worked : (t : Contents) → AllShow tree (Some t) old → list_any (λ f. f.lost) findings ≡ false → IsWorkedOnce calls root n old mid (flat_map (λ f. f.visits.items) findings) (flat_map (λ f. f.pieces.items) findings))
      (visits : List Visit) (pieces : List Index) (lost : Bool) (is_visits : visits ≡ flat_map (λ f. f.visits.items) findings) (is_pieces : pieces ≡ flat_map (λ f. f.pieces.items) findings) (is_lost : lost ≡ list_any (λ f. f.lost) findings)
      (above : (i : ℕ) (d : Option S) → n ≤ i → slice_index_or mid i d ≡ slice_index_or old i d)
      (others : (i : ℕ) (d : Option S) → (i ≡ n → ⊥) → slice_index_or new i d ≡ slice_index_or mid i d) where
    done_once : (piece : Index) → (lost ≡ true → Done piece ≡ Memory) → ((s r : S) → slice_index_or mid n None ≡ Some s → slice_index_or new n None ≡ Some r → IfSome (tree s) (λ t. CallsRest t root visits pieces (calls s) (calls r) (Done piece)))
        → (last : S) → slice_index_or new n None ≡ Some last → (q : Option Contents) → o ≡ q → IfSome q (λ t. IsEachOnce calls t root n old new)
    done_once piece memory rest last is_last None e = tt
    done_once piece memory rest last is_last (Some t) e = by_lost lost piece memory (λ kept.
        let shows_it : AllShow tree (Some t) old = subst (λ (q : Option Contents). AllShow tree q old) e shows in
        let here = subst (λ (q : Option Contents). IfSome q (λ t. CallsRest t root visits pieces (calls own) (calls last) (Done piece))) (shows_it n own is_own) (rest own last (above n None (omega arith) ∙ is_own) is_last) in
        let did = worked t shows_it (sym is_lost ∙ kept) in
        both t own is_own visits pieces piece
        (subst (λ (vs : List Visit). IsWorkedOnce calls root n old mid vs pieces) (sym is_visits) (subst (λ (ps : List Index). IsWorkedOnce calls root n old mid (flat_map (λ (f : Findings). f.visits.items) findings) ps) (sym is_pieces) did))
        above others last is_last here)

    pub each_once : (answer : WalkAnswer) → (lost ≡ true → answer ≡ Memory) → ((s r : S) → slice_index_or mid n None ≡ Some s → slice_index_or new n None ≡ Some r → IfSome (tree s) (λ t. CallsRest t root visits pieces (calls s) (calls r) answer))
        → (last : S) → slice_index_or new n None ≡ Some last → EachOnce calls o root n old new (answer_of answer closed)
    each_once (Done piece) memory rest last is_last = done_once piece memory rest last is_last o refl
    each_once (Stopped many) memory rest last is_last = tt
    each_once (ReadFault path) memory rest last is_last = tt
    each_once (TooMany many) memory rest last is_last = tt
    each_once Memory memory rest last is_last = tt
