use Rattle.std.proofs.Common.{◌≡◌, ◌+◌, [], ◌∷◌, length, arith, ap, ◌∙◌}
use Rattle.std.proofs.lemmas.List.{length-append}
use Rattle.bounded_buffer.proofs.laws.puts_within_room.Goals as goal

pub returns : goal.returns
returns g c = λ n i q p done.
    let room = done.1 in
    let after = done.3 in
    let many : length p.items ≡ length q.items + 1 = ap (λ k. length k.items) after ∙ length-append q.items (i ∷ []) in
    let same : p.capacity ≡ q.capacity = ap (λ k. k.capacity) after in
    omega (arith, room, many, same)
