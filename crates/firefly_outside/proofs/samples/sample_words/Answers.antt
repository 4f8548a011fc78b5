use Rattle.std.proofs.Common.{◌∙◌, ◌++◌, ◌∷◌, [], ap}
use Rattle.firefly_outside.proofs.SampleLines.{words_more}
use Rattle.firefly_outside.proofs.samples.sample_words.Goals as goal

pub loop-n-preserved : goal.loop-n-preserved
loop-n-preserved c =
    words_more c.loop-n.n-counter c.loop-n.words.items c.push.new.self.items c.loop-n.invariant
    (c.in_ok-push.ensures.items ∙ ap (λ w. c.loop-n.words.items ++ w ∷ []) (c.from_string.ensures ∙ c.in_ok-format.ensures.ok))
