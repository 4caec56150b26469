-- The cycle of calls {put_digits}. The measure is k: the digits of the tenth, then the last digit.
use Rattle.timetable_text.proofs.+put_digits.Given as goal

abbrev pub decreases-put_digits : goal.decreases-put_digits
decreases-put_digits l = l.k
