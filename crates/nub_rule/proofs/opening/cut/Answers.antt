use Rattle.std.proofs.Common.{◌≡◌, [], false, rules, arith, ap, sym, refl, ◌∙◌, vec_capacity}
use Rattle.larch_actions.proofs.Names.{few_threads}
use Rattle.larch_actions.specs.Actions.{lives_at_first}
use Rattle.nub_rule.specs.declared.view.Kind.TheVariants.{Member}
use Rattle.nub_rule.specs.Known.{free_space, known_as}
use Rattle.nub_rule.specs.declared.view.Child.TheVariants.{No}
use Rattle.nub_rule.specs.Parts.{first_part}
use Rattle.nub_rule.specs.Rule.{begun, member_view}
use Rattle.nub_rule.proofs.Ends.{fresh_fits}
use Rattle.nub_rule.proofs.Seats.{splits}
use Rattle.nub_rule.proofs.opening.cut.Goals as goal

pub split_off-seat-requires-clause-splits : goal.split_off-seat-requires-clause-splits
split_off-seat-requires-clause-splits g c κs within = splits _ _ _ _ _ _ _ c.requires.root (search rules)

pub invariant_of-result : goal.invariant_of-result
invariant_of-result g c =
    let slots : c.split_off-seat.result.table_id.slots ≡ c.p.inside.table.shared.table_id.slots = ap (λ z. z.slots) (c.split_off-seat.ensures.seat.0 ∙ (c.requires.of ∙ sym (ap (λ s. s.table_id) c.p.view_is))) in
    let key : c.p.inside.table.shared.key.layout ≡ c.args.p.now.layout = ap (λ s. s.layout) c.p.view_is in
    let mutexes : c.p.inside.layout.mutexes ≡ c.args.p.now.layout.mutexes = ap (λ l. l.mutexes) (sym c.p.invariant.laid_out ∙ key) in
    let threads : c.p.inside.layout.threads ≡ c.args.p.now.layout.threads = ap (λ l. l.threads) (sym c.p.invariant.laid_out ∙ key) in
    let wide = c.p.invariant.slots in
    let most = c.p.invariant.lawful.threads in
    let few = few_threads c.p.inside.layout.version in
    let below = c.requires.next.1 in
    let v = c.args.root.now.me.0 in
    fresh_fits (member_view g.U.Uses.begin v) v.part.version (lives_at_first v.part.version v.next) [] (begun g.U.Uses.begin v.next v.world) _ c.split_off-seat.result.me c.args.number c.new-hand.result _ _ c.split_off-seat.ensures.seat.1 refl c.requires.next.0 c.new-hand.ensures (ap (λ v. v.items) c.replace-own.ensures.value ∙ c.requires.empty) (λ z. let m = ap (λ v. vec_capacity v) c.replace-own.ensures.value in let r = c.requires.room z in omega arith) (omega arith)

pub returns-clause-empty : goal.returns-clause-empty
returns-clause-empty g c = ap (λ v. v.items) c.replace-own.ensures.after ∙ c.new-none.ensures.items

pub returns-clause-thread : goal.returns-clause-thread
returns-clause-thread g c = let s = c.split_off-seat.ensures.seat in
    (λ j. known_as (s.0 j) c.args.number (s.1 j) (c.new-entries.ensures.items j) (record { lost = false; capacity = c.new-entries.ensures.capacity j }) 0)
    ∙ (λ j. known_as c.args.root.now.table_id c.args.number (record { world = c.requires.world j; kind = Member; number = 0; part = first_part (c.requires.version j) (c.requires.next.0 j) (begun g.U.Uses.begin (c.requires.next.0 j) (c.requires.world j)); child = No; next = 0; back = [] }, []) [] (free_space 0) 0)
