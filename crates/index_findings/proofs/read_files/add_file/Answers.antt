use Rattle.std.proofs.Common.{[], ◌∙◌, sym}
use Rattle.index_findings.proofs.CoverLaws.{added_covered, begun_covered, outside_covered}
use Rattle.index_findings.proofs.ReadFileLaws.{holds_more, holds_one, if_ok_map, on_ok}
use Rattle.index_findings.proofs.OnceLaws.{once_added, once_begun}
use Rattle.index_findings.proofs.read_files.add_file.Goals as goal

pub returns-then-takes-clause-batch : goal.returns-then-takes-clause-batch
returns-then-takes-clause-batch c =
    let is = sym c.as_str.ensures ∙ c.in-Some.ensures in
    if_ok_map c.add.result _ _ (λ b adds o h read. holds_more o c.args.root.now c.args.batch b c.args.read.now.path c.in-Some.name.now c.args.read.now.file adds is read h) c.add.ensures

pub returns-clause-batch : goal.returns-clause-batch
returns-clause-batch c =
    let is = sym c.as_str.ensures ∙ c.in-Some.ensures in
    if_ok_map c.add-2.result _ _ (λ b adds o h read. holds_one o c.args.root.now c.new.result b c.args.read.now.path c.in-Some.name.now c.args.read.now.file c.new.ensures.none adds is read) c.add-2.ensures

pub returns-then-takes-clause-pieces : goal.returns-then-takes-clause-pieces
returns-then-takes-clause-pieces c = on_ok c.add.result _ (λ o h all. all)

pub returns-clause-pieces : goal.returns-clause-pieces
returns-clause-pieces c = on_ok c.add-2.result _ (λ o h all. c.in_ok-put_batch.ensures.pieces o c.args.root.now h all)

pub returns-in_default-clause-covers : goal.returns-in_default-clause-covers
returns-in_default-clause-covers c = λ files holds path.
    outside_covered c.args.root.now c.args.read.now.path path c.args.pieces.now.items c.args.batch (λ name e. c.in_default.ensures name (c.as_str.ensures ∙ e))

pub returns-then-takes-clause-covers : goal.returns-then-takes-clause-covers
returns-then-takes-clause-covers c =
    let is = sym c.as_str.ensures ∙ c.in-Some.ensures in
    if_ok_map c.add.result _ _ (λ b adds files holds path.
    added_covered c.args.root.now c.args.read.now.path c.in-Some.name.now is path c.args.pieces.now.items c.args.batch b c.args.read.now.file files holds (adds files holds)) c.add.ensures

pub returns-clause-covers : goal.returns-clause-covers
returns-clause-covers c =
    let is = sym c.as_str.ensures ∙ c.in-Some.ensures in
    let none = c.new.ensures.none in
    if_ok_map c.add-2.result _ _ (λ b adds files holds path.
    begun_covered c.args.root.now c.args.read.now.path c.in-Some.name.now is path c.args.pieces.now.items c.put_batch.new.pieces.items c.args.batch c.new.result b c.args.read.now.file none (adds [] none)
    (c.in_ok-put_batch.ensures.covers files holds path)) c.add-2.ensures

pub returns-then-takes-clause-apart : goal.returns-then-takes-clause-apart
returns-then-takes-clause-apart c =
    let is = sym c.as_str.ensures ∙ c.in-Some.ensures in
    if_ok_map c.add.result _ _ (λ b adds files holds once fresh.
    once_added c.args.pieces.now.items c.args.batch b c.in-Some.name.now c.args.read.now.file files holds (adds files holds) once (fresh c.in-Some.name.now is)) c.add.ensures

pub returns-clause-apart : goal.returns-clause-apart
returns-clause-apart c =
    let is = sym c.as_str.ensures ∙ c.in-Some.ensures in
    let none = c.new.ensures.none in
    if_ok_map c.add-2.result _ _ (λ b adds files holds once fresh.
    once_begun c.args.pieces.now.items c.put_batch.new.pieces.items c.args.batch c.new.result b c.in-Some.name.now c.args.read.now.file none (adds [] none) (c.in_ok-put_batch.ensures.apart files holds once)
    (c.in_ok-put_batch.ensures.covers files holds) (fresh c.in-Some.name.now is)) c.add-2.ensures
