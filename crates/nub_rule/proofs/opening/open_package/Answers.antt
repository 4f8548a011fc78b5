use Rattle.std.proofs.Common.{arith, ◌≡◌, ◌+◌, ◌∙◌, ap, sym, length, subst, Some}
use Rattle.larch_actions.proofs.Names.{few_of}
use Rattle.larch_actions.specs.declared.event.Version.{Version}
use Rattle.larch_actions.specs.declared.kind.Kind.TheVariants.{Thread}
use Rattle.nub_rule.specs.Items.{Each}
use Rattle.nub_rule.specs.Ends.{first_known}
use Rattle.nub_rule.proofs.Ends.{opens, opening_wide}
use Rattle.nub_rule.proofs.opening.open_package.Goals as goal

pub table_of-requires-clause-opens : goal.table_of-requires-clause-opens
table_of-requires-clause-opens g c κs within = let w = c.in_ok-words.ensures in rw (c.of.ensures, c.in_ok-slots.ensures) (opens c.args.layout c.args.traced c.args.world.now g.U.Uses.begin g.U.Uses.holds c.in_ok-words.words.items c.args.values.items
    w c.requires.values c.requires.lawful (few_of c.args.layout c.requires.lawful Thread) c.requires.holds)

pub invariant_of-package : goal.invariant_of-package
invariant_of-package g c = let t = c.in_ok-table.ensures in let m = c.in_ok-threads.ensures in record {
  words = t.0 ∙ c.in_ok-words.ensures.wide;
  slots = t.1 ∙ (ap (λ l. length l) c.in_ok-slots.ensures ∙ (opening_wide c.args.values.items ∙ ap (λ n. 192 + n) c.requires.values));
  lawful = c.requires.lawful;
  bare = m.6;
  roomy = m.7;
  woken = m.3;
  laid_out = ap (λ k. k.layout) t.4;
  traced_so = ap (λ k. k.traced) t.4;
}

pub cut_all-threads-requires-clause-root : goal.cut_all-threads-requires-clause-root
cut_all-threads-requires-clause-root g c κs within = let t = c.in_ok-table.ensures in (ap (λ m. m.0.kind) t.3, ap (λ m. m.0.next) t.3)

pub cut_all-threads-requires-clause-world : goal.cut_all-threads-requires-clause-world
cut_all-threads-requires-clause-world g c κs within = let t = c.in_ok-table.ensures in ap (λ m. m.0.world) t.3 ∙ ap (λ k. Some k.world.value) (sym t.4)

pub cut_all-threads-requires-clause-version : goal.cut_all-threads-requires-clause-version
cut_all-threads-requires-clause-version g c κs within = let t = c.in_ok-table.ensures in ap (λ m. m.0.part.version) t.3 ∙ ap (λ k. k.layout.version) (sym t.4)

pub cut_all-threads-requires-clause-parkers : goal.cut_all-threads-requires-clause-parkers
cut_all-threads-requires-clause-parkers g c κs within = c.in_ok-threads.ensures.2 ∙ ap (λ k. k.layout.threads) (sym c.in_ok-table.ensures.4)

pub cut_all-threads-requires-clause-room : goal.cut_all-threads-requires-clause-room
cut_all-threads-requires-clause-room g c κs within = let m = c.in_ok-threads.ensures in let same = ap (λ k. k.layout.mutexes) c.in_ok-table.ensures.4 in let wide = m.5 in (m.4, omega arith)

pub cut_all-threads-requires-clause-threads : goal.cut_all-threads-requires-clause-threads
cut_all-threads-requires-clause-threads g c κs within = let m = c.in_ok-threads.ensures in let same = ap (λ k. k.layout.threads) c.in_ok-table.ensures.4 in let wide = m.1 in (m.0, omega arith)

pub returns-clause-package : goal.returns-clause-package
returns-clause-package g c = let key = c.in_ok-table.ensures.4 in (ap (λ k. k.layout) key, ap (λ k. k.traced) key, ap (λ k. k.world.value) key ∙ c.of.ensures)

pub returns-clause-count : goal.returns-clause-count
returns-clause-count g c = c.cut_all-threads.ensures.count ∙ ap (λ k. k.layout.threads) c.in_ok-table.ensures.4

pub returns-clause-threads : goal.returns-clause-threads
returns-clause-threads g c = let e : c.in_ok-table.table.shared.key.world.value ≡ c.args.world.now = ap (λ k. k.world.value) c.in_ok-table.ensures.4 ∙ c.of.ensures in
    let of : c.in_ok-table.table.shared.key.layout.version ≡ c.args.layout.version = ap (λ k. k.layout.version) c.in_ok-table.ensures.4 in
    subst (λ (z : Version × g.row.U-World.Denot). Each (λ n t. t ≡ first_known c.in_ok-table.table.shared.table_id z.0 z.1 g.U.Uses.begin n) c.cut_all-threads.result.items) (λ i. (of i, e i)) c.cut_all-threads.ensures.threads

pub words-requires : goal.words-requires
words-requires g c = record { few = few_of c.args.layout c.requires.lawful Thread }
