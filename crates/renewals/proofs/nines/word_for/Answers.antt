use Rattle.std.proofs.Common.{◌≡◌, rules, length}
use Rattle.renewals.proofs.Words.{Found, by_find, found_owner, found_valid, found_own}
use Rattle.renewals.proofs.nines.word_for.Goals as goal

pub returns-in-Some : goal.returns-in-Some
returns-in-Some c =
    let nodes : length c.args.nine ≡ 9 = search rules in
    let o : Found c.args.nine (λ c. c.owner) c.find.result = by_find c.args.nine (λ c. c.owner) _ _ _ c.find.ensures.ran (cc) (λ x b q k. search rules) in
    found_owner c.args.nine nodes _ _ o _ c.in-Some.is

pub returns-in-Some-find : goal.returns-in-Some-find
returns-in-Some-find c =
    let nodes : length c.args.nine ≡ 9 = search rules in
    let o : Found c.args.nine (λ c. c.owner) c.find.result = by_find c.args.nine (λ c. c.owner) _ _ _ c.find.ensures.ran (cc) (λ x b q k. search rules) in
    let v : Found c.args.nine (λ c. c.valid) c.find-2.result = by_find c.args.nine (λ c. c.valid) _ _ _ c.find-2.ensures.ran (cc) (λ x b q k. search rules) in
    found_valid c.args.nine nodes _ _ o c.in_default.not-Some _ v _ c.in-Some-find.is

pub returns-then-x : goal.returns-then-x
returns-then-x c =
    let nodes : length c.args.nine ≡ 9 = search rules in
    let o : Found c.args.nine (λ c. c.owner) c.find.result = by_find c.args.nine (λ c. c.owner) _ _ _ c.find.ensures.ran (cc) (λ x b q k. search rules) in
    let v : Found c.args.nine (λ c. c.valid) c.find-2.result = by_find c.args.nine (λ c. c.valid) _ _ _ c.find-2.ensures.ran (cc) (λ x b q k. search rules) in
    found_own c.args.nine nodes _ _ o c.in_default.not-Some _ v c.in_default-find.not-Some (rw c.if-x.true)

pub returns-else-x : goal.returns-else-x
returns-else-x c =
    let nodes : length c.args.nine ≡ 9 = search rules in
    let o : Found c.args.nine (λ c. c.owner) c.find.result = by_find c.args.nine (λ c. c.owner) _ _ _ c.find.ensures.ran (cc) (λ x b q k. search rules) in
    let v : Found c.args.nine (λ c. c.valid) c.find-2.result = by_find c.args.nine (λ c. c.valid) _ _ _ c.find-2.ensures.ran (cc) (λ x b q k. search rules) in
    found_own c.args.nine nodes _ _ o c.in_default.not-Some _ v c.in_default-find.not-Some (rw c.if-x.false)
