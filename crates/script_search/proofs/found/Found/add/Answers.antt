use Rattle.std.proofs.Common.{◌∙◌, List, ℕ, inl, inr, ap, map, refl, subst, sym}
use Rattle.script_search.specs.Boards.{Moment, moment_of}
use Rattle.script_search.specs.Keys.{key_of, moment_in}
use Rattle.script_search.specs.Founds.{moments_of, keys_of, IsThere, Pushes}
use Rattle.script_search.proofs.Keyed.{found_there, absent_there, there_same}
use Rattle.script_search.proofs.Unpacked.{moment_back}
use Rattle.script_search.proofs.found.Found.add.Goals as goal

pub returns-then-contains-clause-ok : goal.returns-then-contains-clause-ok
returns-then-contains-clause-ok c =
    let f = c.args.self.now in
    inl (
      there_same (keys_of f) (map key_of (moments_of f)) c.in_ok-key.key.items (key_of (moment_of c.args.board.now)) c.requires.keyed.keys c.in_ok-key.ensures
          (found_there c.in_ok-key.key.items f.keys.keys (sym c.contains.ensures ∙ c.if-contains.true)),
      refl,
    )

pub returns-then-len-self-clause-full : goal.returns-then-len-self-clause-full
returns-then-len-self-clause-full c = λ _.
    let f = c.args.self.now in
    record {
      count = sym c.len.ensures ∙ c.if-len-self.true;
      absent = λ there. absent_there c.in_ok-key.key.items f.keys.keys (sym c.contains.ensures ∙ c.if-contains.false)
          (there_same (map key_of (moments_of f)) (keys_of f) (key_of (moment_of c.args.board.now)) c.in_ok-key.key.items (sym c.requires.keyed.keys) (sym c.in_ok-key.ensures) there);
    }

pub push-requires-clause-absent : goal.push-requires-clause-absent
push-requires-clause-absent c = λ there. absent_there c.in_ok-key.key.items c.args.self.now.keys.keys (sym c.contains.ensures ∙ c.if-contains.false)
    (subst (λ (k : List ℕ). IsThere (keys_of c.args.self.now) k) c.shrink_to_fit.ensures.items there)

pub push-requires-clause-key : goal.push-requires-clause-key
push-requires-clause-key c =
    let is = c.shrink_to_fit.ensures.items ∙ c.in_ok-key.ensures in
    ap (λ (k : List ℕ). key_of (moment_in c.args.self.now.layout k)) is ∙ (ap key_of (moment_back c.args.self.now.layout (moment_of c.args.board.now) c.requires.board) ∙ sym is)

pub returns-clause-ok : goal.returns-clause-ok
returns-clause-ok c =
    let f = c.args.self.now in
    let is = c.shrink_to_fit.ensures.items ∙ c.in_ok-key.ensures in
    let back = ap (moment_in f.layout) is ∙ moment_back f.layout (moment_of c.args.board.now) c.requires.board in
    inr (
      (λ there. absent_there c.in_ok-key.key.items f.keys.keys (sym c.contains.ensures ∙ c.if-contains.false)
          (there_same (map key_of (moments_of f)) (keys_of f) (key_of (moment_of c.args.board.now)) c.in_ok-key.key.items (sym c.requires.keyed.keys) (sym c.in_ok-key.ensures) there)),
      subst (λ (m : Moment). Pushes f c.push.new.self m c.args.parent) back c.in_ok-push.ensures.ok,
    )
