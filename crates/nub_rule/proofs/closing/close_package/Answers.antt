use Rattle.std.proofs.Common.{rules, arith, ◌≡◌, ◌≢◌, ℕ, List, length, sym, ap, ◌∙◌, subst, None}
use lib.ListN.{get_elem?}
use Rattle.std.proofs.lemmas.List.{length-map}
use Rattle.std.specs.Mem.Slots.{slots_items, slots_counts}
use Rattle.larch_actions.specs.declared.event.Layout.{Layout}
use Rattle.larch_actions.specs.declared.event.Life.TheVariants.{Live}
use Rattle.larch_actions.specs.declared.event.Version.TheVariants.{Two}
use Rattle.nub_rule.specs.declared.view.Part.{Part}
use Rattle.nub_rule.specs.Parts.{Got}
use Rattle.nub_rule.specs.Ends.{Settles, Leaves}
use Rattle.nub_rule.proofs.Each.{each-map}
use Rattle.nub_rule.proofs.Ends.{closes, slot_values, leaves}
use Rattle.nub_rule.proofs.closing.close_package.Given.{Over}
use Rattle.nub_rule.proofs.closing.close_package.Goals as goal
use Rattle.nub_rule.proofs.closing.close_package.Goals.{After-close_with}

pub gather_all-seat-requires-clause-threads : goal.gather_all-seat-requires-clause-threads
gather_all-seat-requires-clause-threads g c κs within = λ n t e. let f = c.requires.threads n t e in (f.0, f.1 ∙ sym (ap (λ s. s.table_id) c.p.view_is), f.2, f.3, f.4)

settled : (g : Over) (c : After-close_with g) → Settles c.args.p.layout (g.U.Uses.holds c.args.p.world) c.gather_all-seat.result.seat.me.0.back (slots_items c.close_with.result.slots)
settled g c = let e = c.gather_all-seat.ensures in let key = c.p.inside.table.shared.key in let seat = c.gather_all-seat.result.seat in
    let about : key.layout ≡ c.args.p.layout = ap (λ s. s.layout) c.p.view_is in let world : key.world.value ≡ c.args.p.world = ap (λ s. s.world) c.p.view_is in
    let idle = each-map (λ t. t.part) (λ _ p. ((m : ℕ) (x : g.row.U-Value.Denot) → ¬ Got p m x) × (p.wait ≡ None) × (key.layout.version ≡ Two → p.life ≢ Live)) c.args.threads.items
    (λ n t at. let r = c.requires.rest n t at in ((c.requires.threads n t at).4, r.0, λ two. r.1 (ap (λ (l : Layout). l.version) (sym about) ∙ two))) in
    let laid : key.layout.threads ≡ c.p.inside.layout.threads = ap (λ (l : Layout). l.threads) c.p.invariant.laid_out in let some_there = c.p.invariant.lawful.some in
    subst (λ (x : Layout × g.row.U-World.Denot). Settles x.0 (g.U.Uses.holds x.1) seat.me.0.back (slots_items c.close_with.result.slots)) (λ i. (about i, world i))
    (closes key.layout key.traced key.world.value g.U.Uses.begin g.U.Uses.holds seat.id seat.me.0 _ (slots_items c.close_with.result.slots) e.kind (omega arith)
    (ap length e.back ∙ (length-map c.args.threads.items _ ∙ (c.requires.count ∙ ap (λ (l : Layout). l.threads) (sym about))))
    (λ n p at. idle n p (ap (λ l. get_elem? l n) (sym e.back) ∙ at)) c.close_with.ensures.values.2)

pub values_of-values-requires-clause-values : goal.values_of-values-requires-clause-values
values_of-values-requires-clause-values g c = let s = settled g c in let n = (slots_counts c.close_with.result.slots).0 in let z = c.p.invariant in let about : c.p.inside.table.shared.key.layout ≡ c.args.p.layout = ap (λ s. s.layout) c.p.view_is in
    let same : c.p.inside.layout.mutexes ≡ c.args.p.layout.mutexes = ap (λ (l : Layout). l.mutexes) (sym c.p.invariant.laid_out ∙ about) in
    λ m low. slot_values c.args.p.layout _ _ (slots_items c.close_with.result.slots) (search rules) s m (search rules)

pub returns-clause-values : goal.returns-clause-values
returns-clause-values g c = let s = settled g (goal.at.returns-clause-values g c).After-close_with in let e = c.gather_all-seat.ensures in
    let about : c.p.inside.table.shared.key.layout ≡ c.args.p.layout = ap (λ s. s.layout) c.p.view_is in
    let same : c.p.inside.layout.mutexes ≡ c.args.p.layout.mutexes = ap (λ (l : Layout). l.mutexes) (sym c.p.invariant.laid_out ∙ about) in
    let v = c.values_of-values in
    let long : length v.result.items ≡ c.args.p.layout.mutexes = search rules in
    (long, subst (λ (l : List (Part g.row.U-Value.Denot g.row.U-Share.Denot)). Leaves c.args.p.layout (g.U.Uses.holds c.args.p.world) l v.result.items) e.back (leaves c.args.p.layout _ _ _ v.result.items s long v.ensures.values))
