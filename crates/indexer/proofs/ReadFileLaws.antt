-- What a parser has done with the files that it read.
use Rattle.std.proofs.Common.{◌≡◌, ℕ, Bool, true, false, ◌||◌, List, [], Option, None, refl, sym, subst, ◌∙◌}
use Rattle.std.specs.Prelude.{All}
use Rattle.std.proofs.lemmas.List.Elements.{All-nil}
use Rattle.firefly_outside.specs.Trees.{Path, Contents, Calls}
use Rattle.firefly_outside.specs.declared.tree.Kind.TheVariants.{File as FileKind}
use Rattle.word_index.specs.Index.{Index}
use Rattle.index_findings.specs.declared.findings.Fault.{Fault}
use Rattle.index_findings.specs.declared.findings.Visit.{Visit}
use Rattle.index_findings.specs.declared.read_files.ReadFile.{ReadFile}
use Rattle.index_findings.specs.ReadFiles.{AreRead, IsRead}
use Rattle.index_findings.specs.Pieces.{IsFilesPiece}
use Rattle.indexer.specs.ReadFiles.{HasGiven, HasParsed}
use Rattle.indexer.specs.Turns.{Worker, Run, HasCalled, IsBetween}
use Rattle.indexer.specs.Walks.{HasDone}
use Rattle.indexer.proofs.Turning.{called_none, called_then, still_between}
use Rattle.indexer.proofs.WalkSteps.{done_along, done_less, done_none, done_on, done_pieces}

module _ (o : Option Contents) (root : Path) where
  -- nothing was given
  pub given_none : (p : Run) (m : ℕ) (kept : List Index) (a : Worker) → HasGiven o root p m kept kept a a
  given_none p m kept a = record { called = called_none o root p m a; kept = λ all. all }

  -- more was given then
  pub given_then : (p : Run) (m : ℕ) (old mid new : List Index) (a b c : Worker) → HasGiven o root p m old mid a b → HasGiven o root p m mid new b c → HasGiven o root p m old new a c
  given_then p m old mid new a b c first second = record { called = called_then o root p m a b c first.called second.called; kept = λ all. second.kept (first.kept all) }

  -- another call followed
  pub given_called : (p : Run) (m : ℕ) (old new : List Index) (a b c : Worker) → HasGiven o root p m old new a b → HasCalled o root [] p m 0 b c → HasGiven o root p m old new a c
  given_called p m old new a b c first call = record { called = called_then o root p m a b c first.called call; kept = first.kept }

-- where neither is lost, the first isn't
none_either : (lost more : Bool) → (lost || more) ≡ false → lost ≡ false
none_either true more e = e
none_either false more e = refl

module _ {S : Type 0} (tree : S → Option Contents) (weak : S → List Path) (faults : S → ℕ) (calls : S → Calls) (root : Path) (p : Run) where
  -- nothing was parsed yet
  pub parsed_none : (s : S) (files : List ReadFile) (kept : List Index) (a : Worker) → files ≡ [] → kept ≡ [] → HasParsed tree weak faults calls root p s s files [] kept a a None false
  parsed_none s files kept a no_files none = record {
    tree_stays = refl;
    weak_stays = refl;
    read = subst (AreRead (tree s)) (sym no_files) (All-nil (λ (r : ReadFile). IsRead (tree s) r.path r.file));
    kept = λ all. subst (All (IsFilesPiece (tree s) root)) (sym none) all;
    done = λ count before c h. h;
  }

  -- a turn more
  pub parsed_on : (s r q : S) (files more : List ReadFile) (old mid new : List Index) (a b c : Worker) (fault : Option Fault) (lost : Bool)
      → HasParsed tree weak faults calls root p s r files old mid a b None false → HasParsed tree weak faults calls root p r q more mid new b c fault lost → HasParsed tree weak faults calls root p s q more old new a c fault lost
  parsed_on s r q files more old mid new a b c fault lost one two = record {
    tree_stays = two.tree_stays ∙ one.tree_stays;
    weak_stays = two.weak_stays ∙ one.weak_stays;
    read = subst (λ (o : Option Contents). AreRead o more) one.tree_stays two.read;
    kept = λ all. subst (λ (o : Option Contents). All (IsFilesPiece o root) mid → All (IsFilesPiece o root) new) one.tree_stays two.kept (one.kept all);
    done = λ count before d h.
        done_along FileKind (tree s) root (weak s) count before p d (tree r) (weak r) one.tree_stays one.weak_stays (faults r) (faults q) (calls r) (calls q) 0 0 b c [] [] None fault false lost
        (one.done count before d h) (two.done count before d);
  }

  parsed_done : (s r : S) (files : List ReadFile) (old new : List Index) (a b : Worker) (fault : Option Fault) (lost : Bool) → HasParsed tree weak faults calls root p s r files old new a b fault lost
      → HasDone FileKind (tree s) root (weak s) (faults s) (faults r) (calls s) (calls r) p 0 a b [] [] fault lost
  parsed_done s r files old new a b fault lost h = h.done (faults s) (calls s) a (done_none FileKind (tree s) root (weak s) (faults s) (calls s) p a)

  pub parsed_between : (s r : S) (files : List ReadFile) (old new : List Index) (a b : Worker) (fault : Option Fault) (lost : Bool) → IsBetween p a → HasParsed tree weak faults calls root p s r files old new a b fault lost → IsBetween p b
  parsed_between s r files old new a b fault lost between h = still_between (tree s) root [] p a b between (parsed_done s r files old new a b fault lost h).back

  -- what is left was given on, and the pieces that were kept are answered
  pub parsed_all : (s r : S) (files : List ReadFile) (kept last : List Index) (a b c : Worker) (fault : Option Fault) (lost more : Bool) (visits : List Visit)
      → HasParsed tree weak faults calls root p s r files [] kept a b fault lost → HasGiven (tree s) root p 1 kept last b c → visits ≡ []
      → (tree r ≡ tree s) × (weak r ≡ weak s) × HasDone FileKind (tree s) root (weak s) (faults s) (faults r) (calls s) (calls r) p 0 a c visits last fault (lost || more)
  parsed_all s r files kept last a b c fault lost more visits h given none = (
    h.tree_stays,
    h.weak_stays,
    subst (λ (vs : List Visit). HasDone FileKind (tree s) root (weak s) (faults s) (faults r) (calls s) (calls r) p 0 a c vs last fault (lost || more)) (sym none)
        (done_less FileKind (tree s) root (weak s) (faults s) (calls s) p a (faults r) (calls r) c [] last fault lost (lost || more) (none_either lost more)
        (done_pieces FileKind (tree s) root (weak s) (faults s) (calls s) p a (faults r) (calls r) c [] last fault lost (given.kept (h.kept (All-nil (IsFilesPiece (tree s) root))))
        (done_on FileKind (tree s) root (weak s) (faults s) (calls s) p a 0 (faults r) (calls r) b c [] fault lost (parsed_done s r files [] kept a b fault lost h) given.called))),
  )
