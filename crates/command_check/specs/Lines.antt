-- The lines of the verdicts.
use Rattle.std.specs.Prelude.{ℕ, List, ◌++◌, codes, decimal}
use Rattle.larch_actions.specs.declared.event.Broken.{Broken}
use Rattle.larch_actions.specs.declared.event.Broken.TheVariants.{Order, Requires, When, Ensures}
use Rattle.trace_check.specs.declared.checker.Summary.{Summary}

abbrev pub legal_line : Summary → List ℕ
legal_line s =
    codes "legal " ++ decimal s.events ++ codes " held " ++ decimal s.held ++ codes " waiting " ++ decimal s.waiting ++ codes " alerted "
    ++ decimal s.alerted ++ codes "\n"

abbrev pub clause_word : Broken → List ℕ
clause_word Order = codes "order"
clause_word Requires = codes "requires"
clause_word When = codes "when"
clause_word Ensures = codes "ensures"

abbrev pub illegal_line : ℕ → Broken → List ℕ
illegal_line place why = codes "illegal " ++ decimal place ++ codes " " ++ clause_word why ++ codes "\n"
