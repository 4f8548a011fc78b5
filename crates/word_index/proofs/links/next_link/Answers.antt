use Rattle.std.proofs.Common.{◌≡◌, ◌+◌, ◌++◌, ◌∷◌, [], ℕ, List, length, sym, ap, subst, arith}
use Rattle.std.proofs.lemmas.List.{length_push}
use Rattle.word_index.specs.declared.links.Link.{Link}
use Rattle.word_index.specs.Links.{IsChain, IsLinked, first_place, bumped}
use Rattle.word_index.proofs.Chains.{chain_more, next_other}
use Rattle.word_index.proofs.links.next_link.Goals as goal

pub returns-in_err-earlier-clause-kept : goal.returns-in_err-earlier-clause-kept
returns-in_err-earlier-clause-kept c = λ n ps h. subst (λ (l : List Link). IsChain l n ps) (sym c.in_ok-push.ensures.items) (chain_more c.args.links.now.items (c.args.last ∷ []) n ps h)

pub returns-clause-kept : goal.returns-clause-kept
returns-clause-kept c = λ n ps h. subst (λ (l : List Link). IsChain l n ps) (sym c.in_ok-push.ensures.items) (chain_more c.args.links.now.items (c.args.last ∷ []) n ps h)

pub returns-clause-next : goal.returns-clause-next
returns-clause-next c = λ ps h.
    let items = c.in_ok-push.ensures.items in
    let at : length c.args.links.now.items + 1 ≡ c.in_ok-earlier.earlier = omega (arith, c.in_ok-earlier.ensures, c.len.ensures, c.push.new.self.ok.0, ap length items, length_push c.args.links.now.items c.args.last) in
    subst (λ (n : ℕ). IsLinked c.push.new.self.items (record { place = first_place c.args.path c.args.line; earlier = n }) (bumped c.args.path c.args.line ps)) at
    (subst (λ (l : List Link). IsLinked l (record { place = first_place c.args.path c.args.line; earlier = length c.args.links.now.items + 1 }) (bumped c.args.path c.args.line ps)) (sym items)
    (next_other c.args.links.now.items c.args.last c.args.path c.args.line ps h c.if-last-path.false))
