use Rattle.std.proofs.Common.{◌≡◌, ◌∙◌, sym, subst, None}
use Rattle.std.specs.Str.{bytes_eq}
use Rattle.std.specs.String.{string_bytes, string_eq}
use Rattle.std.specs.Map.{lookup}
use Rattle.indexmap.proofs.MapLemmas.{Missing-position}
use Rattle.indexmap.proofs.CallerLemmas.{insert_entry-new}
use Rattle.index_table.proofs.Drafts.{weaker}
use Rattle.index_table.proofs.Named.{grows_there, grows_new}
use Rattle.index_table.proofs.paths.place_path.Goals as goal

pub returns-in-Some-clause-placed : goal.returns-in-Some-clause-placed
returns-in-Some-clause-placed c =
    let es = c.args.paths.now.entries in
    weaker c.number_of.result _ _ (λ n e. grows_there es c.args.path.now c.requires c.in-Some.at n c.in-Some.ensures.index e) c.number_of.ensures

pub returns-clause-placed : goal.returns-clause-placed
returns-clause-placed c =
    let m = c.args.paths.now in
    let es = m.entries in
    let text = c.in_ok-text.text in
    let n = c.in_ok-number.number in
    let gone = (Missing-position (λ k. bytes_eq c.args.path.now (string_bytes k)) es (sym c.in_default.ensures.index)).value in
    let none = subst (λ p. lookup (λ k. bytes_eq p (string_bytes k)) es ≡ None) (sym c.in_ok-text.ensures.ok) gone in
    grows_new es c.insert.new.self.entries c.args.path.now c.requires text c.in_ok-text.ensures.ok n (c.in_ok-number.ensures ∙ c.len.ensures.len) (c.in_ok-insert.ensures.entries ∙ insert_entry-new string_eq m text n none)
