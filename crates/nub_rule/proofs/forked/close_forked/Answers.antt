use Rattle.std.proofs.Common.{rules, arith, ◌≡◌, ◌≢◌, ◌++◌, ℕ, List, length, map, sym, ap, ◌∙◌, subst, None}
use lib.ListN.{get_elem?}
use Rattle.std.proofs.lemmas.List.{length-map}
use Rattle.std.specs.Mem.Slots.{slots_items, slots_counts}
use Rattle.larch_actions.specs.declared.event.Layout.{Layout}
use Rattle.larch_actions.specs.declared.event.Life.TheVariants.{Live}
use Rattle.larch_actions.specs.declared.event.Version.TheVariants.{Two}
use Rattle.nub_rule.specs.declared.view.Part.{Part}
use Rattle.nub_rule.specs.Parts.{Got}
use Rattle.nub_rule.specs.Ends.{Settles, Leaves}
use Rattle.nub_rule.specs.Forks.{in_order}
use Rattle.nub_rule.proofs.Each.{each-map}
use Rattle.nub_rule.proofs.Ends.{closes, slot_values, leaves}
use Rattle.nub_rule.proofs.Ordering.{in-order-long}
use Rattle.nub_rule.proofs.forked.close_forked.Given.{Over}
use Rattle.nub_rule.proofs.forked.close_forked.Goals as goal
use Rattle.nub_rule.proofs.forked.close_forked.Goals.{After-close_with}

pub gather_forked-seat-requires-clause-of : goal.gather_forked-seat-requires-clause-of
gather_forked-seat-requires-clause-of g c κs within = λ n t e. c.requires.of n t e ∙ sym (ap (λ s. s.table_id) c.p.view_is)

pub gather_forked-seat-requires-clause-all : goal.gather_forked-seat-requires-clause-all
gather_forked-seat-requires-clause-all g c κs within = λ i low. let about : c.p.inside.layout.threads ≡ c.args.p.layout.threads = ap (λ (l : Layout). l.threads) (sym c.p.invariant.laid_out ∙ ap (λ s. s.layout) c.p.view_is) in
    c.requires.all i (omega arith)

settled : (g : Over) (c : After-close_with g) → Settles c.args.p.layout (g.U.Uses.holds c.args.p.world) c.gather_forked-seat.result.seat.me.0.back (slots_items c.close_with.result.slots)
settled g c = let e = c.gather_forked-seat.ensures in let key = c.p.inside.table.shared.key in let seat = c.gather_forked-seat.result.seat in
    let about : key.layout ≡ c.args.p.layout = ap (λ s. s.layout) c.p.view_is in let world : key.world.value ≡ c.args.p.world = ap (λ s. s.world) c.p.view_is in
    let all = c.args.ended.items ++ c.args.unborn.items in
    let n : ℕ = c.p.inside.layout.threads in
    let idle = each-map (λ t. t.part) (λ _ p. ((m : ℕ) (x : g.row.U-Value.Denot) → ¬ Got p m x) × (p.wait ≡ None) × (key.layout.version ≡ Two → p.life ≢ Live)) (in_order n all)
    (λ k t at. let b = e.idle k t at in (b.none, b.wait, λ two. b.life)) in
    let laid : key.layout.threads ≡ n = ap (λ (l : Layout). l.threads) c.p.invariant.laid_out in let some_there = c.p.invariant.lawful.some in
    let long : length (in_order n all) ≡ n = in-order-long n all (λ i low. c.requires.all i (let z = ap (λ (l : Layout). l.threads) about in omega arith)) in
    subst (λ (x : Layout × g.row.U-World.Denot). Settles x.0 (g.U.Uses.holds x.1) seat.me.0.back (slots_items c.close_with.result.slots)) (λ i. (about i, world i))
    (closes key.layout key.traced key.world.value g.U.Uses.begin g.U.Uses.holds seat.id seat.me.0 _ (slots_items c.close_with.result.slots) e.kind (omega arith)
    (ap length e.back ∙ (length-map (in_order n all) (λ t. t.part) ∙ (long ∙ sym laid)))
    (λ k p at. idle k p (ap (λ l. get_elem? l k) (sym e.back) ∙ at)) c.close_with.ensures.values.2)

pub values_of-values-requires-clause-values : goal.values_of-values-requires-clause-values
values_of-values-requires-clause-values g c = let s = settled g c in let n = (slots_counts c.close_with.result.slots).0 in let z = c.p.invariant in let about : c.p.inside.table.shared.key.layout ≡ c.args.p.layout = ap (λ s. s.layout) c.p.view_is in
    let same : c.p.inside.layout.mutexes ≡ c.args.p.layout.mutexes = ap (λ (l : Layout). l.mutexes) (sym c.p.invariant.laid_out ∙ about) in
    λ m low. slot_values c.args.p.layout _ _ (slots_items c.close_with.result.slots) (search rules) s m (search rules)

pub returns-clause-values : goal.returns-clause-values
returns-clause-values g c = let s = settled g (goal.at.returns-clause-values g c).After-close_with in let e = c.gather_forked-seat.ensures in
    let about : c.p.inside.table.shared.key.layout ≡ c.args.p.layout = ap (λ s. s.layout) c.p.view_is in
    let all = c.args.ended.items ++ c.args.unborn.items in
    let same : c.p.inside.layout.mutexes ≡ c.args.p.layout.mutexes = ap (λ (l : Layout). l.mutexes) (sym c.p.invariant.laid_out ∙ about) in
    let laid : c.p.inside.layout.threads ≡ c.args.p.layout.threads = ap (λ (l : Layout). l.threads) (sym c.p.invariant.laid_out ∙ about) in
    let v = c.values_of-values in
    let long : length v.result.items ≡ c.args.p.layout.mutexes = search rules in
    (long, subst (λ (l : List (Part g.row.U-Value.Denot g.row.U-Share.Denot)). Leaves c.args.p.layout (g.U.Uses.holds c.args.p.world) l v.result.items) (e.back ∙ ap (λ z. map (λ t. t.part) (in_order z all)) laid) (leaves c.args.p.layout _ _ _ v.result.items s long v.ensures.values))

pub returns-clause-stored : goal.returns-clause-stored
returns-clause-stored g c = let e = c.gather_forked-seat.ensures.stored in
    let all = c.args.ended.items ++ c.args.unborn.items in
    let laid : c.p.inside.layout.threads ≡ c.args.p.layout.threads = ap (λ (l : Layout). l.threads) (sym c.p.invariant.laid_out ∙ ap (λ s. s.layout) c.p.view_is) in
    (e.0 ∙ ap (λ z. map (λ t. t.entries) (in_order z all)) laid, e.1 ∙ ap (λ z. map (λ t. t.lost) (in_order z all)) laid)
