-- `check_list::text::put_decimal`, which calls itself with all digits but the last: the measure is the number. Assumes nothing.
use Rattle.check_list.proofs.text.+put_decimal.Given as goal

abbrev pub decreases-put_decimal : goal.decreases-put_decimal
decreases-put_decimal l = l.n
