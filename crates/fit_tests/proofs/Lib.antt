mod Called
