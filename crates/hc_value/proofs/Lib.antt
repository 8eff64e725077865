mod Total
