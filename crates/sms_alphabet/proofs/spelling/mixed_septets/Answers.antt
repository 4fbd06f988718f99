use Rattle.std.proofs.Common.{[], ◌∷◌, append_assoc}
use Rattle.sms_alphabet.proofs.Texts.{spelled_first, spelled_on, spelled_never, spelled_all, codable_as_found}
use Rattle.sms_alphabet.specs.Alphabet.{escape}
use Rattle.sms_alphabet.proofs.spelling.mixed_septets.Goals as goal

pub loop-c-init : goal.loop-c-init
loop-c-init c = rw (c.in_ok-codes.ensures.items, c.into_iter-c-iterator.ensures.into_iter_gives, c.chars-c-items.ensures.rest) (spelled_first _ c.utf8.text)

pub loop-c-preserved-in-Continue-branch-2 : goal.loop-c-preserved-in-Continue-branch-2
loop-c-preserved-in-Continue-branch-2 c =
    let found = rw c.in-Some-Basic.field-0-is at c.in-Some-Basic.ensures in
    rw c.in_ok-push-in-Some-Basic.ensures.items
    (spelled_on _ _ _ _ (c.in-Some-Basic.code ∷ []) c.in-Some.c c.loop-c.invariant c.in-Some.ensures.steps.0 found)

pub loop-c-preserved : goal.loop-c-preserved
loop-c-preserved c =
    let found = rw c.in-Some-Extension.field-0-is at c.in-Some-Extension.ensures in
    rw (c.in_ok-push-in-Some-Extension-2.ensures.items, c.in_ok-push-in-Some-Extension.ensures.items, append_assoc)
    (spelled_on _ _ _ _ (escape ∷ c.in-Some-Extension.code ∷ []) c.in-Some.c c.loop-c.invariant c.in-Some.ensures.steps.0 found)

pub returns-in-None-code_of-clause-codes : goal.returns-in-None-code_of-clause-codes
returns-in-None-code_of-clause-codes c =
    spelled_never _ _ _ _ c.in-Some.c c.loop-c.invariant c.in-Some.ensures.steps.0 c.in-None-code_of.ensures

pub returns-in-None-code_of-clause-codable : goal.returns-in-None-code_of-clause-codable
returns-in-None-code_of-clause-codable c =
    codable_as_found _ _
    (spelled_never _ _ _ _ c.in-Some.c c.loop-c.invariant c.in-Some.ensures.steps.0 c.in-None-code_of.ensures)

pub returns-clause-codes : goal.returns-clause-codes
returns-clause-codes c =
    let ((none, ended), more, last) = c.in-None.ensures.steps in
    spelled_all _ _ _ c.loop-c.invariant none

pub returns-clause-codable : goal.returns-clause-codable
returns-clause-codable c =
    let ((none, ended), more, last) = c.in-None.ensures.steps in
    codable_as_found _ _ (spelled_all _ _ _ c.loop-c.invariant none)
