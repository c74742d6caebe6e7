-- Growth and merge (docs/RULES.md, "Growth" and "Merge"), on the lists held. `keep` is 0 for a merge without duplicates.
use Rattle.std.specs.Prelude.{ℕ, zero, suc, ◌+◌, ◌-◌, max, List, [], ◌∷◌, map, length}
use Rattle.std.proofs.Math.Decide.{dec_le, dec_lt, ℕ_discrete}
use Rattle.theory.specs.tools.Choose.{choose}
use Rattle.theory.specs.Holding.{more}
use Rattle.theory.specs.Changing.{up_to}
use Rattle.theory.specs.Shape.{capacity, fingerprint}
use Rattle.theory.specs.Planning.{width_from}

-- all are added, one copy for each
unfoldable pub added : List ℕ → List ℕ → List ℕ
added l [] = l
added l (f ∷ b) = added (more f l) b

-- only absent ones are added, once each
unfoldable pub added_once : List ℕ → List ℕ → List ℕ
added_once l [] = l
added_once l (f ∷ b) = added_once (up_to 1 f l) b

-- as many bits on both sides: copies are added up, or, where keep is 0, there is one of each that one of the two holds
unfoldable pub joined : ℕ → List ℕ → List ℕ → List ℕ
joined zero a b = added_once (added_once [] a) b
joined (suc keep) a b = added a b

-- other has more bits: its fingerprints lose those above q + r and are added, all of them, or, where keep is 0, one of each that self lacks
unfoldable pub taken : ℕ → ℕ → ℕ → List ℕ → List ℕ → List ℕ
taken zero q r a b = added_once a (map (fingerprint q r) b)
taken (suc keep) q r a b = added a (map (fingerprint q r) b)

-- growth, 7: max_qbits is none (0) or at most qbits
unfoldable pub growth_due : ℕ → ℕ → ℕ
growth_due q mx = choose (dec_le mx q) 7 0

-- as many bits on both sides: how many there must be room for, the result, and the two lens together, or, where keep is 0, the larger of them
unfoldable pub wanted : ℕ → List ℕ → List ℕ → ℕ
wanted zero a b = max (length (joined zero a b)) (max (length a) (length b))
wanted (suc keep) a b = max (length (joined (suc keep) a b)) (length a + length b)

-- the largest qbits allowed: max_qbits, or self's qbits if none
unfoldable pub limit : ℕ → ℕ → ℕ
limit q mx = choose (ℕ_discrete mx 0) q mx

-- the smallest qbits that is at least self's and has the capacity, and one past the limit if none up to it has
unfoldable pub joined_qbits : ℕ → ℕ → ℕ → ℕ
joined_qbits q mx c = width_from (suc (limit q mx - q)) q c

-- 7: it passes the limit
unfoldable pub joined_due : ℕ → ℕ → ℕ → ℕ
joined_due q mx c = choose (dec_lt (limit q mx) (joined_qbits q mx c)) 7 0

-- other wider, 7: an added copy would pass capacity
unfoldable pub taken_due : ℕ → List ℕ → List ℕ → ℕ
taken_due q a l = choose (dec_lt (length a) (length l)) (choose (dec_lt (capacity q) (length l)) 7 0) 0
