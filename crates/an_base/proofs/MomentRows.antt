-- What the definitions of moments say of some texts and moments.
use Rattle.std.proofs.Common.{◌≡◌, pos, negsuc, codes, refl, Ok, Err}
use Rattle.an_base.specs.Moment.{moment_of, moment_text, has_form, days_of_months, date_time_after}
use Rattle.an_base.specs.declared.moment.MomentError.TheVariants.{Form, Range}

may_day : moment_of (codes "2024-05-01T10:00:00Z") ≡ Ok (pos 1_714_557_600)
unfolding moment_of has_form days_of_months
may_day = refl

leap_century : moment_of (codes "2000-02-29T00:00:00Z") ≡ Ok (pos 951_782_400)
unfolding moment_of has_form days_of_months
leap_century = refl

common_century : moment_of (codes "1900-02-29T00:00:00Z") ≡ Err Range
unfolding moment_of has_form days_of_months
common_century = refl

leap_year : moment_of (codes "2024-02-29T00:00:00Z") ≡ Ok (pos 1_709_164_800)
unfolding moment_of has_form days_of_months
leap_year = refl

common_year : moment_of (codes "2023-02-29T00:00:00Z") ≡ Err Range
unfolding moment_of has_form days_of_months
common_year = refl

no_such_date : moment_of (codes "2024-02-30T00:00:00Z") ≡ Err Range
unfolding moment_of has_form days_of_months
no_such_date = refl

second_sixty : moment_of (codes "2024-12-31T23:59:60Z") ≡ Err Range
unfolding moment_of has_form days_of_months
second_sixty = refl

hour_twenty_four : moment_of (codes "2024-05-01T24:00:00Z") ≡ Err Range
unfolding moment_of has_form days_of_months
hour_twenty_four = refl

year_alone : moment_of (codes "2024") ≡ Err Form
unfolding moment_of has_form
year_alone = refl

other_sign : moment_of (codes "2024-05-01 10:00:00Z") ≡ Err Form
unfolding moment_of has_form
other_sign = refl

form_first : moment_of (codes "2024-13-01T1a:00:00Z") ≡ Err Form
unfolding moment_of has_form
form_first = refl

first_text : moment_text (negsuc 62_167_219_199) ≡ codes "0000-01-01T00:00:00Z"
unfolding moment_text date_time_after days_of_months
first_text = refl

epoch_text : moment_text (pos 0) ≡ codes "1970-01-01T00:00:00Z"
unfolding moment_text date_time_after days_of_months
epoch_text = refl

leap_text : moment_text (pos 1_709_164_800) ≡ codes "2024-02-29T00:00:00Z"
unfolding moment_text date_time_after days_of_months
leap_text = refl

last_text : moment_text (pos 253_402_300_799) ≡ codes "9999-12-31T23:59:59Z"
unfolding moment_text date_time_after days_of_months
last_text = refl
