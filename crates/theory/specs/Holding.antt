-- A holding: the fingerprints held, in ascending order, each as often as held. Of a fingerprint f, f / R is the quotient and f % R the remainder, with R = 2 ^ rbits.
use Rattle.std.specs.Prelude.{ℕ, suc, ◌*◌, ◌/◌, ◌%◌, ◌≤◌, ◌<◌, List, [], ◌∷◌, length}
use Rattle.std.proofs.Math.Decide.{dec_le, ℕ_discrete}
use Rattle.theory.specs.tools.Choose.{choose}

-- all of l are at least a; all are below b
unfoldable pub Least : ℕ → List ℕ → Type 0
Least a [] = Unit {0}
Least a (f ∷ l) = (a ≤ f) × Least a l

unfoldable pub Under : ℕ → List ℕ → Type 0
Under b [] = Unit {0}
Under b (f ∷ l) = (f < b) × Under b l

unfoldable pub Ascending : List ℕ → Type 0
Ascending [] = Unit {0}
Ascending (f ∷ l) = Least f l × Ascending l

-- the remainders of those with the quotient x
unfoldable pub run : ℕ → List ℕ → ℕ → List ℕ
run R [] x = []
run R (f ∷ l) x = choose (ℕ_discrete (f / R) x) (f % R ∷ run R l x) (run R l x)

-- one copy more, one copy fewer, how many copies
unfoldable pub more : ℕ → List ℕ → List ℕ
more f [] = f ∷ []
more f (g ∷ l) = choose (dec_le g f) (g ∷ more f l) (f ∷ g ∷ l)

unfoldable pub fewer : ℕ → List ℕ → List ℕ
fewer f [] = []
fewer f (g ∷ l) = choose (ℕ_discrete g f) l (g ∷ fewer f l)

unfoldable pub copies : ℕ → List ℕ → ℕ
copies f [] = 0
copies f (g ∷ l) = choose (ℕ_discrete g f) (suc (copies f l)) (copies f l)

-- the place, from 1, of the first that equals r, or how many there are if none does
unfoldable pub seek : ℕ → List ℕ → ℕ
seek r [] = 0
seek r (g ∷ l) = choose (ℕ_discrete g r) 1 (suc (seek r l))

-- fewer than m fingerprints, ascending, with quotients below m and remainders below R
pub record Holding (m R : ℕ) (l : List ℕ) : Type 0 where
  pub ascending : Ascending l
  pub under : Under (m * R) l
  pub fewer : length l < m
