-- What a writer leaves of a part that may be too short for it.
use Rattle.std.specs.Prelude.{ℕ, ◌+◌, cond, List, length, ltb}
use Rattle.rules.specs.Fields.{over, over_at}

-- p over the front of a part that has room for it; a shorter part stays as it was.
unfoldable pub placed : List ℕ → List ℕ → List ℕ
placed p part = cond (ltb (length part) (length p)) part (over p part)

-- p over a part's bytes from a place on, where the part has room for it there; another part stays as it was.
abbrev pub placed_at : ℕ → List ℕ → List ℕ → List ℕ
placed_at at p part = cond (ltb (length part) (at + length p)) part (over_at at p part)
