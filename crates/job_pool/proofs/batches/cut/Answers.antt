use Rattle.std.proofs.Common.{◌≡◌, ◌≤◌, ◌+◌, ◌-◌, ◌*◌, ℕ, ◌∷◌, ◌++◌, length, map, sym, ap, subst, ◌∙◌, arith, append_assoc, append-nil, vec_capacity, vec_len}
use Rattle.std.specs.List.{AllByRecursion}
use Rattle.std.specs.Vec.Iter.{into_iter_items}
use Rattle.thread_crew.proofs.Zips.{nothing_left}
use Rattle.job_pool.specs.Slots.{IsRoom, fresh, slots_of}
use Rattle.job_pool.proofs.Calling.{slots_push}
use Rattle.job_pool.proofs.batches.cut.Goals as goal

-- one list fewer
fewer : (now was lists less size : ℕ) → now ≡ was - size → was ≤ lists * size → less + 1 ≡ lists → now ≤ less * size
fewer now was lists less size e h one = let all : lists * size ≡ less * size + size = ap (λ n. n * size) (sym one) ∙ omega arith in omega arith

pub loop-list-init : goal.loop-list-init
loop-list-init g c =
    let gives = c.into_iter-list-iterator.ensures.into_iter_gives in
    let source = c.into_iter-source.ensures in
    let all = ap length gives.0 in
    let ok = c.args.lists.ok.0 in
    let len = gives.1 in
    let jobs = ap length source.rest in
    let many = c.args.jobs.ok.0 in
    let long = source.len in
    let none = c.args.batches.ok.0 in
    let empty = ap length c.requires.batches.0 in
    let wide = c.requires.batches.1 in
    record {
      left = omega arith;
      room = omega arith;
      rooms = subst (λ l. AllByRecursion (λ x. IsRoom c.args.size x.items (vec_capacity x)) l) (sym gives.0) c.requires.lists;
      count = omega arith;
      source = omega arith;
      same = ap (λ l. slots_of l ++ map fresh (into_iter_items c.into_iter-source.result)) c.requires.batches.0;
      enough =
          let e : length (into_iter_items c.into_iter-source.result) ≤ vec_len c.args.lists * c.args.size = (let few = c.requires.enough in omega arith) in
          subst (λ n. length (into_iter_items c.into_iter-source.result) ≤ n * c.args.size) (sym len) e;
    }

pub batch_of-requires-clause-room : goal.batch_of-requires-clause-room
batch_of-requires-clause-room g c κs within =
    let rooms : AllByRecursion (λ x. IsRoom c.args.size x.items (vec_capacity x)) (c.in-Some.list ∷ into_iter_items c.next.new.self) = (let steps = c.in-Some.ensures.steps.0 in let h = c.loop-list.invariant.rooms in rw steps at h) in
    rooms.0

pub batch_of-requires-clause-source : goal.batch_of-requires-clause-source
batch_of-requires-clause-source g c κs within = c.loop-list.invariant.source

pub push_reserved-requires : goal.push_reserved-requires
push_reserved-requires g c =
    let room = c.loop-list.invariant.room in
    let gone = c.in-Some.ensures.steps.1 in
    omega arith

pub loop-list-preserved : goal.loop-list-preserved
loop-list-preserved g c =
    let at = c.loop-list in
    let was = at.invariant in
    let steps = c.in-Some.ensures.steps.0 in
    let gone = c.in-Some.ensures.steps.1 in
    let short = ap length steps in
    let push = c.push_reserved.ensures in
    let made = c.batch_of.ensures in
    let b = c.batch_of.result in
    let rest = map fresh (into_iter_items c.batch_of.new.source) in
    let rooms : AllByRecursion (λ x. IsRoom c.args.size x.items (vec_capacity x)) (c.in-Some.list ∷ into_iter_items c.next.new.self) = (let h = was.rooms in rw steps at h) in
    record {
      left = (let left = was.left in omega arith);
      room = (let room = was.room in let cap = push.capacity in let len = push.len in omega arith);
      rooms = rooms.1;
      count = (let count = was.count in let len = push.len in omega arith);
      source = made.source;
      same = ap (λ l. slots_of l ++ rest) push.items ∙ (ap (λ l. l ++ rest) (slots_push at.batches.items b)
          ∙ (append_assoc (slots_of at.batches.items) b.slots.items rest ∙ (ap (λ l. slots_of at.batches.items ++ l) made.same ∙ was.same)));
      enough = fewer _ _ _ _ c.args.size made.less was.enough gone;
    }

pub returns-clause-slots : goal.returns-clause-slots
returns-clause-slots g c =
    let at = c.loop-list in
    let was = at.invariant in
    let none = c.in-None.ensures.steps.0 in
    let enough = subst (λ n. length (into_iter_items at.source) ≤ n * c.args.size) none was.enough in
    let nothing = nothing_left (into_iter_items at.source) (omega (arith, enough)) in
    sym (append-nil (slots_of at.batches.items)) ∙ (ap (λ l. slots_of at.batches.items ++ map fresh l) (sym nothing) ∙ (was.same ∙ ap (map fresh) c.into_iter-source.ensures.rest))

pub returns-clause-count : goal.returns-clause-count
returns-clause-count g c =
    let at = c.loop-list in
    let count = at.invariant.count in
    let none = c.in-None.ensures.steps.0 in
    let len = c.into_iter-list-iterator.ensures.into_iter_gives.1 in
    let ok = at.batches.ok.0 in
    omega arith
