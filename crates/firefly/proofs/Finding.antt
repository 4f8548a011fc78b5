-- What a query means in the rows of the index of a tree, it means in the tree.
use Rattle.std.proofs.Common.{◌≡◌, ◌⊎◌, ⊎_elim, ℕ, true, false, List, [], Some, refl, sym, ap, subst, ◌∙◌, inl, inr}
use Rattle.std.specs.Prelude.{◌↔◌, Contains, Option, IfSome, if◌then◌else◌, ◌≤◌, length}
use Rattle.firefly_outside.specs.Trees.{Path, Contents, Bytes, child, is_long}
use Rattle.firefly_outside.specs.Under.{IsUnder}
use Rattle.firefly_outside.specs.declared.tree.Kind.TheVariants as kind
use Rattle.word_index.specs.Index.{Entry, File, Hit, Index, IsEntryOf, Row, entries, entry_of, row_entries}
use Rattle.word_index.specs.Counts.{seen_in}
use Rattle.word_index.specs.Words.{file_words}
use Rattle.walker.specs.TreeIndex.{IsFileAt, IsTreeIndex}
use Rattle.walker.proofs.Children.{child_name}
use Rattle.walker.proofs.ListLemmas.{Contains-map, Contains-unmap}
use Rattle.index_rule.specs.Counting.{in_all, in_one}
use Rattle.index_print.specs.Text.{index_text}
use Rattle.index_table.specs.Rows.{HasFile, HasPath, paths_of}
use Rattle.index_text.specs.Laws.{AreFiles}
use Rattle.index_text.specs.Texts.{ReadsAs}
use Rattle.index_text.proofs.OneReading.{one_reading}
use Rattle.index_text.proofs.ReadBack.{read_back}
use Rattle.index_find.specs.Meaning.{AreMeant, Means}
use Rattle.index_find.specs.Tree.{Tree, Word, Not, Both, Either}
use Rattle.command_endings.specs.Changes.{Change}
use Rattle.command_find.specs.Find.{IsFound}
use Rattle.firefly.specs.Laws.{FindsIndexed, HasWord, MeansFile, NamesFiles}

same_bytes : (x y : List ℕ) → Some (Bytes x) ≡ Some (Bytes y) → x ≡ y
same_bytes x y e = cc

module _ (t : Contents) (root : Path) (index : Index) (x : IsTreeIndex t root index) where
  -- the entry of a row's file
  entry_in : (w p : List ℕ) → HasFile index.rows w p → (e : Entry) × Contains (entries index) e × (e.word ≡ w) × (e.path ≡ p)
  entry_in w p h =
      let row = h.0 in
      let hit = Contains-unmap (λ (k : Hit). k.path) row.hits p h.3 in
      let e = entry_of row.word hit.origin in
      (e, in_all row_entries index.rows row e h.1 (Contains-map (entry_of row.word) row.hits hit.origin hit.among), h.2, hit.is)

  to_tree : (w p : List ℕ) → HasFile index.rows w p → HasWord t root w p
  to_tree w p h =
      let e = entry_in w p h in
      let own = (x.index.entries e.0).0 e.1 in
      let f = own.file in
      let at = x.reported f own.among in
      let same : f.path ≡ p = sym own.path ∙ e.3 in
      let short : is_long at.bytes ≡ false = sym (ap (λ (g : File). g.long) at.shown) ∙ own.short in
      let bytes : f.bytes ≡ at.bytes = ap (λ (g : File). g.bytes) at.shown ∙ ap (λ b. if b then [] else at.bytes) short in
      record {
        under = subst (λ (q : Path). IsUnder t root kind.File (child root q)) same (x.under f own.among);
        bytes = at.bytes;
        here = ap (λ (q : Path). t (child root q)) (sym same) ∙ at.here;
        short = short;
        seen = record { count = e.0.count; line = e.0.line };
        is_seen = ap (λ v. seen_in v (file_words at.bytes)) (sym e.2) ∙ (ap (λ b. seen_in e.0.word (file_words b)) (sym bytes) ∙ own.counted);
      }

  to_rows : (w p : List ℕ) → HasWord t root w p → HasFile index.rows w p
  to_rows w p h =
      let all = x.all (child root p) h.under in
      let f = all.0 in
      let same : p ≡ f.path = child_name root p f.path all.2 in
      let at = x.reported f all.1 in
      let bytes : at.bytes ≡ h.bytes = same_bytes at.bytes h.bytes (sym at.here ∙ (ap (λ (q : Path). t (child root q)) (sym same) ∙ h.here)) in
      let short : is_long at.bytes ≡ false = ap is_long bytes ∙ h.short in
      let shown : f.bytes ≡ h.bytes = ap (λ (g : File). g.bytes) at.shown ∙ (ap (λ b. if b then [] else at.bytes) short ∙ bytes) in
      let e : Entry = record { word = w; path = p; count = h.seen.count; line = h.seen.line } in
      let own : IsEntryOf x.files e = record {
        file = f;
        among = all.1;
        short = ap (λ (g : File). g.long) at.shown ∙ short;
        path = same;
        counted = ap (λ b. seen_in w (file_words b)) shown ∙ h.is_seen;
      } in
      let one = in_one row_entries index.rows e ((x.index.entries e).1 own) in
      let hit = Contains-unmap (entry_of one.one.word) one.one.hits e one.is in (
        one.one,
        one.among,
        ap (λ (k : Entry). k.word) hit.is,
        subst (Contains (paths_of one.one.hits)) (ap (λ (k : Entry). k.path) hit.is) (Contains-map (λ (k : Hit). k.path) one.one.hits hit.origin hit.among),
      )

  means : (q : Tree) (p : List ℕ) → Means index.rows q p ↔ MeansFile t root q p
  means (Word w) p = (to_tree w p, to_rows w p)
  means (Not q) p =
      let m = means q p in (
        λ h. ((h.0.0.word, to_tree h.0.0.word p (h.0.0, h.0.1, refl, h.0.2)), λ k. h.1 (m.1 k)),
        λ h. ((let f = to_rows h.0.0 p h.0.1 in (f.0, f.1, f.3)), λ k. h.1 (m.0 k)),
      )
  means (Both y z) p = let a = means y p in let b = means z p in (λ h. (a.0 h.0, b.0 h.1), λ h. (a.1 h.0, b.1 h.1))
  means (Either y z) p =
      let a = means y p in
      let b = means z p in (
        λ h. ⊎_elim (λ (k : Means index.rows y p). inl (a.0 k)) (λ (k : Means index.rows z p). inr (b.0 k)) h,
        λ h. ⊎_elim (λ (k : MeansFile t root y p). inl (a.1 k)) (λ (k : MeansFile t root z p). inr (b.1 k)) h,
      )

  names : ReadsAs (index_text index) index.rows index.skipped → (most : ℕ) (query : Tree) (input : Change) (text : List ℕ) → input.old ≡ Some (index_text index) → IsFound most query input text → NamesFiles t root query text
  names read most query input text old f =
      let own = subst (λ (o : Option (List ℕ)). IfSome o (λ bytes. (length bytes ≤ most) × ReadsAs bytes f.rows f.read.0)) old f.read.1 in
      let same : f.rows ≡ index.rows = (one_reading (index_text index) f.rows index.rows f.read.0 index.skipped own.1 read).0 in
      let meant : AreMeant index.rows query f.paths = subst (λ (r : List Row). AreMeant r query f.paths) same f.meant in
      record {
        paths = f.paths;
        rising = meant.rising;
        each = λ p. (λ c. (means query p).0 ((meant.each p).0 c), λ h. (meant.each p).1 ((means query p).1 h));
        lines = f.lines;
      }

pub finds_indexed : FindsIndexed
finds_indexed t root index x few =
    let read = read_back x.files index few x.index in
    (read, names t root index x read)
