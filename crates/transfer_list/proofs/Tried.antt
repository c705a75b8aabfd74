-- A list to which neither of the numbers 13 and 14 applies, told by one test of each entry.
use Rattle.std.proofs.Common.{◌≡◌, ℕ, false, ◌||◌, List, sym, ◌∙◌}
use Rattle.rules.specs.TransferList.{entries, entry}
use Rattle.rules.specs.Transfers.{bad_entry, bad_front, late, list_tests, some_entry}
use Rattle.rules.specs.Refusals.{first_of, one_of}
use Rattle.laws.proofs.Range.{any_or, or_left, or_right}

pub none_wrong : (consumers : ℕ) (l : List ℕ) → bad_front l ≡ false
    → some_entry l (λ t. late t || bad_entry consumers t) ≡ false
    → 0 ≡ first_of (list_tests consumers l)
unfolding list_tests first_of one_of
none_wrong consumers l front none =
    let both = sym (any_or (λ i. late (entry l i)) (λ i. bad_entry consumers (entry l i)) (entries l)) ∙ none in
    let bad = some_entry l (bad_entry consumers) in
    rw (front, or_right (some_entry l late) bad both, or_left (some_entry l late) bad both)
