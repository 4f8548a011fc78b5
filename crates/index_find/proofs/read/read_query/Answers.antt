use Rattle.std.proofs.Common.{◌≡◌, ◌==◌, ap, sym, ◌∙◌, map, take, reverse, length, ◌≤◌, ◌<◌, ◌∷◌, [], ◌++◌, List, ℕ, Bool, true, Some, subst, rules, arith}
use Rattle.std.proofs.lemmas.List.{length-map}
use Rattle.std.specs.String.{string_bytes}
use Rattle.std.specs.Vec.{vec_len}
use Rattle.index_find.specs.declared.query.Step.{Step}
use Rattle.index_find.specs.Grammar.{IsReading}
use Rattle.index_find.specs.Postfix.{tree_of}
use Rattle.index_find.specs.Taking.{Before, Past, ran, state_of, finished}
use Rattle.index_find.proofs.Answered.{ran-push, token_more, token_refused, end_refused, err_is, all_tokens, none_left, left_open, read, IsRead}
use Rattle.index_find.proofs.read.read_query.Goals as goal
use Rattle.index_find.proofs.read.read_query.Goals.{After-is_empty}

pub returns-in_err-following : goal.returns-in_err-following
returns-in_err-following c =
    let ts = map string_bytes c.args.words.now in
    let i = c.loop-word.word-index in
    let inside : i < length c.args.words.now = omega arith in
    let more = token_more string_bytes c.args.words.now i c.word-item.result inside c.word-item.is ∙ ap (λ (x : List ℕ). take i ts ++ x ∷ []) (sym c.as_str.ensures.value) in
    token_refused ts i c.as_str.result.now (state_of c.loop-word.following (reverse c.loop-word.pending.items) c.loop-word.steps.items)
    (reverse c.take.new.pending.items) c.take.new.steps.items c.in_err-following.field-0.0 c.from_residual.result more c.loop-word.invariant c.in_err-following.ensures
    (err_is _ _ c.from_residual.ensures.1)

pub loop-word-preserved : goal.loop-word-preserved
loop-word-preserved c =
    let ts = map string_bytes c.args.words.now in
    let i = c.loop-word.word-index in
    let inside : i < length c.args.words.now = omega arith in
    let more = token_more string_bytes c.args.words.now i c.word-item.result inside c.word-item.is ∙ ap (λ (x : List ℕ). take i ts ++ x ∷ []) (sym c.as_str.ensures.value) in
    ap (ran (Before [] [])) more
    ∙ ran-push (take i ts) c.as_str.result.now (state_of c.loop-word.following (reverse c.loop-word.pending.items) c.loop-word.steps.items) _ c.loop-word.invariant c.in_ok-following.ensures

pub returns-then-not-following : goal.returns-then-not-following
returns-then-not-following c =
    let ps = reverse c.loop-word.pending.items in
    let past : length c.args.words.now ≤ c.loop-word.word-index = omega arith in
    let all = all_tokens string_bytes c.args.words.now c.loop-word.word-index past in
    end_refused (map string_bytes c.args.words.now) (state_of c.loop-word.following ps c.loop-word.steps.items) (ap (ran (Before [] [])) (sym all) ∙ c.loop-word.invariant)
    (ap (λ (b : Bool). finished (state_of b ps c.loop-word.steps.items)) c.if-not-following.true)

pub returns-then-not-is_empty : goal.returns-then-not-is_empty
returns-then-not-is_empty c =
    let ps = reverse c.loop-word.pending.items in
    let us = c.loop-word.steps.items in
    let past : length c.args.words.now ≤ c.loop-word.word-index = omega arith in
    let all = all_tokens string_bytes c.args.words.now c.loop-word.word-index past in
    let size : length c.end_part.new.pending.items ≡ vec_len c.end_part.new.pending = search rules in
    end_refused (map string_bytes c.args.words.now) (Past ps us)
    (ap (ran (Before [] [])) (sym all) ∙ c.loop-word.invariant ∙ ap (λ (b : Bool). Some (state_of b ps us)) c.if-not-following.false)
    (left_open ps c.end_part.new.pending.items us c.in_ok-end_part.ensures.pending (ap (λ (n : ℕ). n == 0) size ∙ sym c.is_empty.ensures ∙ c.if-not-is_empty.true))

-- what was read, where nothing is left open
module _ (c : After-is_empty) (none : c.is_empty.result ≡ true) where
  done : IsRead (map string_bytes c.args.words.now) c.end_part.new.steps.items
  done =
      let ps = reverse c.loop-word.pending.items in
      let us = c.loop-word.steps.items in
      let past : length c.args.words.now ≤ c.loop-word.word-index = omega arith in
      let all = all_tokens string_bytes c.args.words.now c.loop-word.word-index past in
      let few : length (map string_bytes c.args.words.now) ≤ 64 = rw length-map (omega arith) in
      let size : length c.end_part.new.pending.items ≡ vec_len c.end_part.new.pending = search rules in
      read (map string_bytes c.args.words.now) ps us c.end_part.new.steps.items few
      (ap (ran (Before [] [])) (sym all) ∙ c.loop-word.invariant ∙ ap (λ (b : Bool). Some (state_of b ps us)) c.if-not-following.false)
      (sym c.in_ok-end_part.ensures.pending ∙ none_left c.end_part.new.pending.items (ap (λ (n : ℕ). n == 0) size ∙ sym c.is_empty.ensures ∙ none))
      c.in_ok-end_part.ensures.steps

pub of-requires : goal.of-requires
of-requires c = (done (goal.at.of-requires c).After-is_empty c.if-not-is_empty.false).whole

pub returns : goal.returns
returns c =
    let r = done (goal.at.returns c).After-is_empty c.if-not-is_empty.false in
    subst (λ (ss : List Step). IsReading (map string_bytes c.args.words.now) (tree_of ss)) (sym c.of.ensures) r.reading
