use Rattle.std.proofs.Common.{◌≡◌, ◌∙◌, List, Result, Ok, Err, IfOk, ap, sym}
use Rattle.word_index.specs.Read.{read_file}
use Rattle.word_index.proofs.Batches.{holds_long, holds_short}
use Rattle.word_index.proofs.batch.Batch.add.Goals as goal

if_ok_map : {T E : Type 0} (r : Result T E) (P Q : T → Type 0) → ((x : T) → P x → Q x) → IfOk r P → IfOk r Q
if_ok_map (Ok x) P Q f h = f x h
if_ok_map (Err e) P Q f h = tt

pub returns-then-file : goal.returns-then-file
returns-then-file c =
    let f = read_file c.args.path.now c.args.file.now in
    if_ok_map c.add_long.result _ _ (λ b e fs h. holds_long fs f c.args.self b h e.0 c.if-file.true e.1 e.2) (rw c.as_bytes.ensures.value at c.add_long.ensures)

pub returns-else-file : goal.returns-else-file
returns-else-file c =
    let f = read_file c.args.path.now c.args.file.now in
    if_ok_map c.add_short.result _ _ (λ b e fs h. holds_short fs f c.args.self b h e.0 c.if-file.false e.1 e.2) (rw (c.as_bytes-else-file.ensures.value, c.deref.ensures.value) at c.add_short.ensures)
